-- The promises of the digits' functions fix their answers. Assumes nothing.
use mathlib.Core.Path.{◌≡◌}
use Prim.Native.Nat.{ℕ, ◌/◌, ◌%◌}
use mathlib.Core.List.{List, [], ◌∷◌}
use Rattle.std.specs.Prelude.{Option}
use Rattle.hex_digits.specs.Digits.{digit_of, value_of, digit_value, pair_value, encode}
use Rattle.laws.proofs.Promise.{one_answer}

pub upper_digit_one_answer : (byte : ℕ) {x y : ℕ} → x ≡ digit_of (byte / 16) → y ≡ digit_of (byte / 16) → x ≡ y
upper_digit_one_answer byte p q = one_answer p q

pub lower_digit_one_answer : (byte : ℕ) {x y : ℕ} → x ≡ digit_of (byte % 16) → y ≡ digit_of (byte % 16) → x ≡ y
lower_digit_one_answer byte p q = one_answer p q

pub of_one_answer : (byte : ℕ) {x y : List ℕ} → x ≡ digit_of (byte / 16) ∷ digit_of (byte % 16) ∷ [] → y ≡ digit_of (byte / 16) ∷ digit_of (byte % 16) ∷ [] → x ≡ y
of_one_answer byte p q = one_answer p q

pub value_one_answer : (byte : ℕ) {x y : ℕ} → x ≡ value_of byte → y ≡ value_of byte → x ≡ y
value_one_answer byte p q = one_answer p q

pub number_one_answer : (byte : ℕ) {x y : Option ℕ} → x ≡ digit_value byte → y ≡ digit_value byte → x ≡ y
number_one_answer byte p q = one_answer p q

pub byte_one_answer : (upper lower : ℕ) {x y : Option ℕ} → x ≡ pair_value upper lower → y ≡ pair_value upper lower → x ≡ y
byte_one_answer upper lower p q = one_answer p q

pub text_one_answer : (bytes : List ℕ) {x y : List ℕ} → x ≡ encode bytes → y ≡ encode bytes → x ≡ y
text_one_answer bytes p q = one_answer p q
