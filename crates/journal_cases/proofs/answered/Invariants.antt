-- What is left of the input gets shorter. Assumes nothing.
use Rattle.std.proofs.Common.{length}
use Rattle.journal_cases.proofs.answered.Given as goal

abbrev pub decreases-loop-rest : goal.decreases-loop-rest
decreases-loop-rest g l = length l.rest
