-- Two lists beside each other.
use Rattle.std.specs.Prelude.{List, [], ◌∷◌}

-- P holds at each place of two lists of one length
abbrev pub Each : {A B : Type 0} → (A → B → Type 0) → List A → List B → Type 0
Each P [] [] = Unit {0}
Each P [] (y ∷ ys) = ⊥
Each P (x ∷ xs) [] = ⊥
Each P (x ∷ xs) (y ∷ ys) = P x y × Each P xs ys
