use Rattle.std.proofs.Common.{◌-◌, length, drop, length-take, length-drop, arith}
use Rattle.frames.proofs.Pieces.{taken_fits}
use Rattle.journal_cases.proofs.answered.Goals as goal

pub slice_bounds-rest-count : goal.slice_bounds-rest-count
slice_bounds-rest-count g c = taken_fits _ _ _ _ _ c.step-step.ensures

pub slice_bounds-rest-start : goal.slice_bounds-rest-start
slice_bounds-rest-start g c = taken_fits _ _ _ _ _ c.step-step.ensures

pub loop-rest-smaller : goal.loop-rest-smaller
loop-rest-smaller g c =
    let rest = c.loop-rest.rest.now in
    let n = c.step-step.result.taken in
    omega (arith, taken_fits _ _ _ _ _ c.step-step.ensures, length-take (length rest - n) (drop n rest), length-drop n rest)
