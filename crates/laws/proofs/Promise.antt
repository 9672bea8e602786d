-- A promise that names the answer by a definition fixes it: two answers that meet it are equal. Assumes nothing.
use mathlib.Core.Path.{◌≡◌, sym, ◌∙◌}

pub one_answer : {A : Type 0} {definition x y : A} → x ≡ definition → y ≡ definition → x ≡ y
one_answer p q = p ∙ sym q
