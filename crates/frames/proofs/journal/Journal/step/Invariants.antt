-- What is done and what is left is the whole. Assumes nothing.
use Rattle.std.proofs.Common.{length}
use Rattle.frames.specs.Steps.{place_of}
use Rattle.frames.proofs.Walking.{Going}
use Rattle.frames.proofs.journal.Journal.step.Given as goal

abbrev pub invariant-loop-journal : goal.invariant-loop-journal
invariant-loop-journal l = Going (place_of l.initial.journal) l.input l.initial.out (place_of l.journal) l.rest l.out l.put

abbrev pub decreases-loop-journal : goal.decreases-loop-journal
decreases-loop-journal l = length l.rest
