-- `spelled` meets its contract. The loop's invariant: the line has the digits of each byte passed, and its newline.
use mathlib.Core.Path.{◌≡◌}
use Prim.Native.Nat.{ℕ, ◌<◌}
use lib.ListN.{length, get_or}
use Rattle.keccak_vectors.specs.Line.{SpellsAt}
use Rattle.keccak_vectors.proofs.line.spelled.Given as goal

abbrev pub invariant-loop-i : goal.invariant-loop-i
invariant-loop-i l = (length l.line ≡ 401) × ((k : ℕ) → k < l.i → SpellsAt l.line l.state k) × (get_or l.line 400 0 ≡ 10)
