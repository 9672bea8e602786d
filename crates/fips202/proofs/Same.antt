-- Two state arrays that are one state: they have the same bit at each place that counts. Assumes nothing.
use mathlib.Core.Path.{◌≡◌, refl, sym, ◌∙◌}
use Prim.Native.Nat.{ℕ, ◌<◌}
use Rattle.fips202.specs.Keccak.{Array}

abbrev pub Same : ℕ → Array → Array → Type 0
Same w A B = (x y z : ℕ) → x < 5 → y < 5 → z < w → A x y z ≡ B x y z

pub same_refl : (w : ℕ) (A : Array) → Same w A A
same_refl w A x y z hx hy hz = refl

pub same_sym : (w : ℕ) (A B : Array) → Same w A B → Same w B A
same_sym w A B p x y z hx hy hz = sym (p x y z hx hy hz)

pub same_trans : (w : ℕ) (A B C : Array) → Same w A B → Same w B C → Same w A C
same_trans w A B C p q x y z hx hy hz = p x y z hx hy hz ∙ q x y z hx hy hz
