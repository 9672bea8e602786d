-- `run` within a block: what is done and what is left is the whole. Assumes nothing.
use Rattle.strobe.proofs.Loops.{Within}
use Rattle.strobe.proofs.parts.run.Given as goal

abbrev pub invariant-loop-j : goal.invariant-loop-j
invariant-loop-j g l = Within g.R.ByteRule.rule l.fn.st l.pos l.fn.buf l.st l.buf l.j
