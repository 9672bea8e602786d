-- `bytes` writes all lanes. The loop's invariant: `out` is what the first `i` turns make of zeros. Assumes nothing.
use mathlib.Core.Path.{◌≡◌}
use lib.ListN.{replicate}
use Rattle.keccak.proofs.Loops.{turns, write_at}
use Rattle.keccak.proofs.lanes.bytes.Given as goal

abbrev pub invariant-loop-i : goal.invariant-loop-i
invariant-loop-i l = l.out ≡ turns (write_at l.fn.a) l.i (replicate 200 0)
