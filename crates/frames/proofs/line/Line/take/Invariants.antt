-- The part so far and the rest of the input come to what the whole does. Assumes nothing.
use Rattle.std.proofs.Common.{length}
use Rattle.frames.specs.Steps.{part_of}
use Rattle.frames.specs.Inside.{Same}
use Rattle.frames.proofs.line.Line.take.Given as goal

abbrev pub invariant-loop-rest : goal.invariant-loop-rest
invariant-loop-rest l = Same (part_of l.self) l.rest (part_of l.fn.self) l.fn.input

abbrev pub decreases-loop-rest : goal.decreases-loop-rest
decreases-loop-rest l = length l.rest
