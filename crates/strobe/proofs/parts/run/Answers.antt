use mathlib.Core.Path.{ap}
use native.Mathlib.Omega.{arith}
use Prim.Native.Nat.{◌+◌}
use lib.ListN.{set}
use Rattle.strobe.proofs.Loops.{begins, goes, ends}
use Rattle.strobe.proofs.parts.run.Goals as goal

pub loop-j-init : goal.loop-j-init
loop-j-init g c = begins _ _ _ _

pub loop-j-preserved : goal.loop-j-preserved
loop-j-preserved g c =
    let l = c.loop-j in
    goes _ _ _ _ l.st l.buf l.j l.invariant (omega arith)
    _ (ap (set l.st (c.args.pos + l.j)) c.state.ensures)
    _ (ap (set l.buf l.j) c.buffer.ensures)

pub returns : goal.returns
returns g c = ends _ _ _ _ _ _ _ c.loop-j.invariant (omega arith)
