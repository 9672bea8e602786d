-- `feed`, block by block: what is done and what is left is the whole. Assumes nothing.
use lib.ListN.{length}
use Rattle.strobe.proofs.Loops.{Left}
use Rattle.strobe.proofs.duplex.State.feed.Given as goal

abbrev pub invariant-loop-rest : goal.invariant-loop-rest
invariant-loop-rest g l = Left g.R.ByteRule.rule l.fn.self l.fn.bytes l.self l.rest

abbrev pub decreases-loop-rest : goal.decreases-loop-rest
decreases-loop-rest g l = length l.rest
