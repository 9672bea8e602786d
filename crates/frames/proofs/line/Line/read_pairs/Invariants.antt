-- The bytes so far and the rest of the input come to what the whole does. Assumes nothing.
use Rattle.std.proofs.Common.{◌≡◌, true, length}
use Rattle.frames.specs.Steps.{part_of}
use Rattle.frames.specs.Inside.{Same, is_whole}
use Rattle.frames.specs.declared.line.Line.{Line}
use Rattle.frames.proofs.line.Line.read_pairs.Given as goal

abbrev pub invariant-loop-rest : goal.invariant-loop-rest
invariant-loop-rest l =
    let line : Line = record l.self { count = l.count } in
    (is_whole (part_of line) ≡ true) × Same (part_of line) l.rest (part_of l.initial.self) l.initial.rest

abbrev pub decreases-loop-rest : goal.decreases-loop-rest
decreases-loop-rest l = length l.rest
