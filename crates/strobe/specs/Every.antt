-- A statement about every row of a table.
use Rattle.std.specs.Prelude.{List, [], ◌∷◌}

abbrev pub Every : {A : Type 0} → (A → Type 0) → List A → Type 0
Every P [] = Unit {0}
Every P (x ∷ xs) = P x × Every P xs
