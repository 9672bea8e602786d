-- `run`, block by block: what is done and what is left is the whole. Assumes nothing.
use Prim.Native.Nat.{◌-◌}
use lib.ListN.{length}
use Rattle.strobe.proofs.Loops.{Going}
use Rattle.strobe.proofs.duplex.State.run.Given as goal

abbrev pub invariant-loop-i : goal.invariant-loop-i
invariant-loop-i g l = Going g.R.ByteRule.rule l.fn.self l.fn.buf l.self l.buf l.i

abbrev pub decreases-loop-i : goal.decreases-loop-i
decreases-loop-i g l = length l.fn.buf - l.i
