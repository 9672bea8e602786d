-- The lines of an input whose first line is known: up to its newline, or to the end. Assumes nothing.
use Prim.Native.Nat.{ℕ}
use mathlib.Core.Path.{◌≡◌, refl, ap, ◌∙◌}
use mathlib.Core.List.{List, [], ◌∷◌, ◌++◌}
use mathlib.Core.Bool.{Bool, true, false, not, cond, ◌&&◌}
use lib.Dec.{eqb}
use borrow.Author.Tests.{not-true}
use Rattle.laws.proofs.Bools.{and_left, and_right}
use Rattle.frames.specs.Lines.{newline, grown, lines}

-- a text without a newline
unfoldable pub plain : List ℕ → Bool
plain [] = true
plain (c ∷ text) = not (eqb c newline) && plain text

pub plain_none : plain [] ≡ true
unfolding plain
plain_none = refl

pub plain_more : (text : List ℕ) (c : ℕ) → plain text ≡ true → eqb c newline ≡ false → plain (text ++ c ∷ []) ≡ true
unfolding plain
plain_more [] c h e = ap (λ (t : Bool). not t && true) e
plain_more (b ∷ text) c h e =
    ap (λ (t : Bool). not (eqb b newline) && t) (plain_more text c (and_right (not (eqb b newline)) (plain text) h) e)
    ∙ ap (λ (t : Bool). t && true) (and_left (not (eqb b newline)) (plain text) h)

module _ (c : ℕ) (text : List ℕ) (h : plain (c ∷ text) ≡ true) where
  none_first : eqb c newline ≡ false
  unfolding plain
  none_first = not-true (eqb c newline) (and_left (not (eqb c newline)) (plain text) h)

  plain_rest : plain text ≡ true
  unfolding plain
  plain_rest = and_right (not (eqb c newline)) (plain text) h

pub lines-newline : (text input : List ℕ) → plain text ≡ true → lines (text ++ newline ∷ input) ≡ text ∷ lines input
unfolding lines
lines-newline [] input h = refl
lines-newline (c ∷ text) input h =
    ap (λ (t : Bool). cond t ([] ∷ lines (text ++ newline ∷ input)) (grown c (lines (text ++ newline ∷ input)))) (none_first c text h)
    ∙ ap (grown c) (lines-newline text input (plain_rest c text h))

pub lines_last : (c : ℕ) (text : List ℕ) → plain (c ∷ text) ≡ true → lines (c ∷ text) ≡ (c ∷ text) ∷ []
unfolding lines
lines_last c [] h = ap (λ (t : Bool). cond t ([] ∷ []) ((c ∷ []) ∷ [])) (none_first c [] h)
lines_last c (d ∷ text) h =
    ap (λ (t : Bool). cond t ([] ∷ lines (d ∷ text)) (grown c (lines (d ∷ text)))) (none_first c (d ∷ text) h)
    ∙ ap (grown c) (lines_last d text (plain_rest c (d ∷ text) h))
