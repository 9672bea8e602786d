use Rattle.std.proofs.Common.{◌-◌, ◌<◌, length, drop, sym, length-take, length-drop, arith}
use borrow.Author.Tests.{eqb-false}
use Rattle.frames.proofs.Pieces.{taken_fits, some_taken}
use Rattle.journal.proofs.answered.Goals as goal

pub slice_bounds-rest-count : goal.slice_bounds-rest-count
slice_bounds-rest-count g c = taken_fits _ _ _ _ _ c.step-step.ensures

pub slice_bounds-rest-start : goal.slice_bounds-rest-start
slice_bounds-rest-start g c = taken_fits _ _ _ _ _ c.step-step.ensures

pub loop-rest-smaller : goal.loop-rest-smaller
loop-rest-smaller g c =
    let rest = c.loop-rest.rest.now in
    let n = c.step-step.result.taken in
    let more : 0 < length rest = omega (arith, eqb-false (length rest) 0 (sym c.loop-rest-test.ensures)) in
    let some = some_taken _ _ _ _ _ c.step-step.ensures (omega (arith, c.requires, c.loop-rest.auto.out)) more in
    omega (arith, some, taken_fits _ _ _ _ _ c.step-step.ensures, length-take (length rest - n) (drop n rest), length-drop n rest)
