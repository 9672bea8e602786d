use mathlib.Core.Path.{◌≡◌}
use Prim.Native.Nat.{◌+◌}
use native.Mathlib.Omega.{arith}
use lib.ListN.{drop_of_length-le}
use Rattle.strobe.specs.Loops.{part}
use Rattle.strobe.proofs.Loops.{part_turn}
use Rattle.strobe.proofs.parts.feed.Goals as goal

pub loop-j-init : goal.loop-j-init
loop-j-init g c = let e : c.args.pos + 0 ≡ c.args.pos = omega arith in rw e

pub loop-j-preserved : goal.loop-j-preserved
loop-j-preserved g c = rw (c.state.ensures, ← part_turn g.R.ByteRule.rule c.loop-j.st c.args.pos c.args.bytes.now c.loop-j.j c.loop-j-test.true) c.loop-j.invariant

pub returns : goal.returns
unfolding part
returns g c = rw (drop_of_length-le c.args.bytes.now {i = c.loop-j.j} c.loop-j-test.false) at c.loop-j.invariant
