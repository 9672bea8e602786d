-- `parse` meets its contract. The loop's invariant: the line has the digits of each byte stored.
use mathlib.Core.Path.{◌≡◌}
use Prim.Native.Nat.{ℕ, ◌<◌}
use lib.ListN.{length}
use Rattle.keccak_vectors.specs.Line.{SpellsAt}
use Rattle.keccak_vectors.proofs.line.parse.Given as goal

abbrev pub invariant-loop-i : goal.invariant-loop-i
invariant-loop-i l = (length l.state ≡ 200) × ((k : ℕ) → k < l.i → SpellsAt l.line l.state k)
