use Prim.Native.Nat.{ℕ, ◌+◌, ◌-◌}
use mathlib.Core.Path.{◌≡◌}
use native.Mathlib.Omega.{arith}
use lib.ListN.{replicate, length-replicate, replicate-append-replicate}
use Rattle.strobe.specs.Flags.{zeroing}
use Rattle.strobe.proofs.Loops.{block, left_turn, left_stop, zeroed}
use Rattle.strobe.proofs.duplex.State.zero.Goals as goal

pub loop-left-preserved : goal.loop-left-preserved
loop-left-preserved c =
    let s = c.loop-left.self in
    let n = c.min-size.result in
    let left = c.loop-left.left in
    let sum : left ≡ n + (left - n) = omega arith in
    left_turn zeroing _ _ s _ (replicate n 0) _ (rw (replicate-append-replicate {A = ℕ} n (left - n) 0, ← sum)) c.loop-left.invariant _
    (block zeroing s (replicate n 0) n (length-replicate {A = ℕ} n 0) (omega arith) (omega arith)
    _ (zeroed s.bytes s.pos n (s.pos + n - s.pos) (omega arith) (omega arith) _ (c.fill.ensures.after (λ y e. e)))
    _ c.advance.ensures.duplex c.advance.ensures.rate)

pub returns : goal.returns
returns c = left_stop _ _ _ c.loop-left.self _ (rw (length-replicate {A = ℕ} c.loop-left.left 0) c.loop-left-test.false) c.loop-left.invariant
