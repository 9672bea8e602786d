-- An input cut into lines (docs/JOURNAL.md, section 1).
use Rattle.std.specs.Prelude.{cond, List, [], ◌∷◌, ℕ, eqb}

abbrev pub newline : ℕ
newline = 10

-- a character in front of the first line; where there is none, it is a last line without its newline
abbrev pub grown : ℕ → List (List ℕ) → List (List ℕ)
grown c [] = (c ∷ []) ∷ []
grown c (l ∷ ls) = (c ∷ l) ∷ ls

-- each line without its newline
unfoldable pub lines : List ℕ → List (List ℕ)
lines [] = []
lines (c ∷ input) = cond (eqb c newline) ([] ∷ lines input) (grown c (lines input))
