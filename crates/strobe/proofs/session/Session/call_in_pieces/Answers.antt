use Prim.Native.Nat.{◌+◌, ◌-◌, ◌<◌}
use mathlib.Core.Path.{refl, ap}
use native.Mathlib.Omega.{arith}
use lib.ListN.{length}
use Rattle.strobe.specs.Session.{sponge_of, seen}
use Rattle.strobe.specs.declared.session.Session.{Session}
use Rattle.strobe.proofs.Cutting.{cut_start, cut_turn, cut_refused, cut_last, cut_size, comes_whole}
use Rattle.strobe.proofs.session.Session.call_in_pieces.Goals as goal

pub loop-buf-init : goal.loop-buf-init
loop-buf-init c = (cut_start _ _ _ _ _ _, refl, c.piece_size-step.ensures)

pub returns-then-refuses : goal.returns-then-refuses
returns-then-refuses c =
    let sp = sponge_of c.args.self.level in
    let step = c.piece_size-step.result in
    let h = (rw c.loop-buf.invariant.1 at c.call-piece.ensures) in
    comes_whole c.args.self.level sp _ _ c.args.size _ _ _ _ _ _ _ c.loop-buf.invariant.2 h
    (cut_refused sp c.args.flags step (seen c.args.self) c.args.more c.args.buf.now
    (seen c.loop-buf.session) c.loop-buf.on c.loop-buf.buf c.loop-buf.a c.loop-buf.invariant.0
    (cut_size c.args.size (length c.args.buf.now) step _ c.loop-buf.invariant.2 c.loop-buf-test.true (omega (arith, c.loop-buf.invariant.0.long))) c.loop-buf-test.true (c.loop-buf.a + step - c.loop-buf.a) (omega arith)
    _ h.outcome.answer _ c.refuses.ensures c.if-refuses.true _ h.lent)

pub loop-buf-smaller : goal.loop-buf-smaller
loop-buf-smaller c =
    let step = c.piece_size-step.result in
    let some : 0 < step = cut_size c.args.size (length c.args.buf.now) step _ c.loop-buf.invariant.2 c.loop-buf-test.true (omega (arith, c.loop-buf.invariant.0.long)) in
    omega (arith, c.loop-buf.invariant.0.long, c.loop-buf-test.true)

pub loop-buf-preserved : goal.loop-buf-preserved
loop-buf-preserved c =
    let sp = sponge_of c.args.self.level in
    let step = c.piece_size-step.result in
    let h = (rw c.loop-buf.invariant.1 at c.call-piece.ensures) in (
      cut_turn sp c.args.flags step (seen c.args.self) c.args.more c.args.buf.now
          (seen c.loop-buf.session) c.loop-buf.on c.loop-buf.buf c.loop-buf.a c.loop-buf.invariant.0
          (cut_size c.args.size (length c.args.buf.now) step _ c.loop-buf.invariant.2 c.loop-buf-test.true (omega (arith, c.loop-buf.invariant.0.long))) c.loop-buf-test.true (c.loop-buf.a + step - c.loop-buf.a) (omega arith)
          _ h.outcome.answer _ c.refuses.ensures c.if-refuses.false
          _ (ap seen h.outcome.session) _ h.lent _ refl,
      ap (λ (s : Session). s.level) h.outcome.session,
      c.loop-buf.invariant.2,
    )

pub returns : goal.returns
returns c =
    let sp = sponge_of c.args.self.level in
    let step = c.piece_size-step.result in
    let h = (rw c.loop-buf.invariant.1 at c.call.ensures) in
    comes_whole c.args.self.level sp _ _ c.args.size _ _ _ _ _ _ _ c.loop-buf.invariant.2 h
    (cut_last sp c.args.flags step (seen c.args.self) c.args.more c.args.buf.now
    (seen c.loop-buf.session) c.loop-buf.on c.loop-buf.buf c.loop-buf.a c.loop-buf.invariant.0
    c.loop-buf-test.false (length c.loop-buf.buf - c.loop-buf.a) refl _ h.lent)
