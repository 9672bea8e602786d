-- `zero`, block by block: what is done and what is left is the whole. Assumes nothing.
use lib.ListN.{replicate}
use Rattle.strobe.specs.Flags.{zeroing}
use Rattle.strobe.proofs.Loops.{Left}
use Rattle.strobe.proofs.duplex.State.zero.Given as goal

abbrev pub invariant-loop-left : goal.invariant-loop-left
invariant-loop-left l = Left zeroing l.fn.self (replicate l.fn.n 0) l.self (replicate l.left 0)

abbrev pub decreases-loop-left : goal.decreases-loop-left
decreases-loop-left l = l.left
