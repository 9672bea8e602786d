use Prim.Native.Nat.{◌+◌, ◌-◌}
use mathlib.Core.Path.{refl}
use native.Mathlib.Omega.{arith}
use Rattle.strobe.proofs.Loops.{turn, stop}
use Rattle.strobe.proofs.duplex.State.run.Goals as goal

pub loop-i-preserved : goal.loop-i-preserved
loop-i-preserved g c =
    let l = c.loop-i in
    let n = c.min-size.result in
    turn _ _ _ l.self l.buf l.i n (l.i + n - l.i) (omega arith) l.invariant (omega arith) (omega arith) (omega arith)
    c.run.new.st c.run.new.buf c.run.ensures _ c.advance.ensures.duplex c.advance.ensures.rate _ refl

pub returns : goal.returns
returns g c = stop _ _ _ _ _ _ c.loop-i.invariant (omega arith)
