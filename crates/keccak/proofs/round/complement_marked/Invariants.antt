-- `complement_marked` complements the marked lanes. The loop's invariant: `s` is what the first `i-index` turns make. Assumes nothing.
use mathlib.Core.Path.{◌≡◌}
use Rattle.keccak.proofs.Loops.{turns, complement_at}
use Rattle.keccak.proofs.round.complement_marked.Given as goal

abbrev pub invariant-loop-i : goal.invariant-loop-i
invariant-loop-i l = l.s ≡ turns (complement_at l.i-items) l.i-index l.initial.s
