-- A byte and its two digits are each other's. Assumes nothing.
use mathlib.Core.Path.{◌≡◌, ap, ◌∙◌}
use Prim.Native.Nat.{ℕ, ◌/◌, ◌%◌, ◌<◌}
use native.Mathlib.Omega.{arith}
use Rattle.std.specs.Prelude.{Some}
use Rattle.hex_digits.specs.Digits.{digit_of, value_of, pair_value}
use Rattle.hex_digits.proofs.Digits.{value_of_digit, digit_of_value}

pub pair_of_byte : (x y v : ℕ) → v < 256 → x ≡ digit_of (v / 16) → y ≡ digit_of (v % 16) → pair_value x y ≡ Some v
pair_of_byte x y v h p q =
    let upper : value_of x ≡ v / 16 = ap value_of p ∙ value_of_digit (v / 16) (omega arith) in
    let lower : value_of y ≡ v % 16 = ap value_of q ∙ value_of_digit (v % 16) (omega arith) in
    grind (arith, upper, lower)

pub byte_of_pair : (x y v : ℕ) → pair_value x y ≡ Some v → (x ≡ digit_of (v / 16)) × (y ≡ digit_of (v % 16))
byte_of_pair x y v e = grind (arith, digit_of_value)
