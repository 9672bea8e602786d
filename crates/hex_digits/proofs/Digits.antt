-- The number of each byte, and that digits and numbers below 16 are each other's. Assumes nothing.
use mathlib.Core.Path.{◌≡◌}
use Prim.Native.Nat.{ℕ, ◌-◌, ◌≤◌, ◌<◌}
use native.Mathlib.Decide.{dec_lt}
use native.Mathlib.Omega.{arith}
use borrow.Author.Tests.{le-leb, lt-leb}
use Rattle.hex_digits.specs.Digits.{digit_of, value_of}

module _ (b : ℕ) where
  pub none_before_0 : b < 48 → value_of b ≡ 16
  unfolding value_of
  none_before_0 h = simp (lt-leb 48 b h, lt-leb 97 b (omega arith))

  pub value_0_to_9 : 48 ≤ b → b < 58 → value_of b ≡ b - 48
  unfolding value_of
  value_0_to_9 h k = simp (le-leb 48 b h, le-leb b 57 (omega arith))

  pub none_from_9_to_a : 58 ≤ b → b < 97 → value_of b ≡ 16
  unfolding value_of
  none_from_9_to_a h k = simp (le-leb 48 b (omega arith), lt-leb b 57 (omega arith), lt-leb 97 b k)

  pub value_a_to_f : 97 ≤ b → b < 103 → value_of b ≡ b - 87
  unfolding value_of
  value_a_to_f h k = simp (le-leb 48 b (omega arith), lt-leb b 57 (omega arith), le-leb 97 b h, le-leb b 102 (omega arith))

  pub none_after_f : 103 ≤ b → value_of b ≡ 16
  unfolding value_of
  none_after_f h = simp (le-leb 48 b (omega arith), lt-leb b 57 (omega arith), le-leb 97 b (omega arith), lt-leb b 102 (omega arith))

pub value_of_digit : (n : ℕ) → n < 16 → value_of (digit_of n) ≡ n
value_of_digit n h = pick (dec_lt n 10)
  where
    pick : Dec (n < 10) → value_of (digit_of n) ≡ n
    pick (yes k) = omega (arith, value_0_to_9 (digit_of n) (omega arith) (omega arith))
    pick (no k) = omega (arith, value_a_to_f (digit_of n) (omega arith) (omega arith))

pub digit_of_value : (b : ℕ) → value_of b < 16 → b ≡ digit_of (value_of b)
digit_of_value b h = pick (dec_lt b 48) (dec_lt b 58) (dec_lt b 97) (dec_lt b 103)
  where
    pick : Dec (b < 48) → Dec (b < 58) → Dec (b < 97) → Dec (b < 103) → b ≡ digit_of (value_of b)
    pick (yes p) _ _ _ = absurd (omega (arith, none_before_0 b p))
    pick (no p) (yes q) _ _ = omega (arith, value_0_to_9 b (omega arith) q)
    pick (no p) (no q) (yes s) _ = absurd (omega (arith, none_from_9_to_a b (omega arith) s))
    pick (no p) (no q) (no s) (yes t) = omega (arith, value_a_to_f b (omega arith) t)
    pick (no p) (no q) (no s) (no t) = absurd (omega (arith, none_after_f b (omega arith)))
