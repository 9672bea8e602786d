use mathlib.Core.Path.{refl, sym}
use native.Mathlib.Omega.{arith}
use borrow.Author.Tests.{eqb-true, eqb-false}
use Rattle.strobe.proofs.Loops.{block, left_turn, left_stop}
use Rattle.strobe.proofs.duplex.State.feed.Goals as goal

pub loop-rest-preserved : goal.loop-rest-preserved
loop-rest-preserved g c =
    let s = c.loop-rest.self in
    let cut = c.split_at.ensures in
    let some = eqb-false _ 0 (sym c.loop-rest-test.ensures) in
    left_turn _ _ _ s c.loop-rest.rest.now _ _ cut.by_index.0 c.loop-rest.invariant _
    (block _ s _ _ refl (omega (arith, some, cut.front_len)) (omega (arith, cut.front_len)) _ c.feed.ensures _ c.advance.ensures.duplex c.advance.ensures.rate)

pub returns : goal.returns
returns g c =
    let none = eqb-true _ 0 (sym c.loop-rest-test.ensures) in
    left_stop _ _ _ c.loop-rest.self c.loop-rest.rest.now (omega (arith, none)) c.loop-rest.invariant
