-- `feed` within a block: what is done and what is left is the whole. Assumes nothing.
use mathlib.Core.Path.{◌≡◌}
use Prim.Native.Nat.{◌+◌}
use lib.ListN.{drop}
use Rattle.strobe.specs.Loops.{part}
use Rattle.strobe.proofs.parts.feed.Given as goal

abbrev pub invariant-loop-j : goal.invariant-loop-j
invariant-loop-j g l = part g.R.ByteRule.rule l.st (l.pos + l.j) (drop l.j l.bytes) ≡ part g.R.ByteRule.rule l.fn.st l.pos l.bytes
