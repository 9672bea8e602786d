-- Bit z of a number, `x / 2 ^ z % 2`: of and, or, xor, a complement, shifts and a rotation within w bits; and that numbers of
-- w bits with the same bits are equal. All over w. Assumes nothing.
use mathlib.Core.Path.{◌≡◌, sym, ap, ap₂, ◌∙◌}
use Prim.Native.Nat.{ℕ, zero, suc, ◌+◌, ◌*◌, ◌-◌, ◌/◌, ◌%◌, ◌^◌, ◌≤◌, ◌<◌}
use native.Mathlib.Nat.{mod-eq_of_lt, mod-lt, lt_of_lt_of_le, div-eq_of_lt, mul_assoc, mod-eq-sub-mod, add-mod_right, zero-mod, sub-zero, pow-suc}
use native.Mathlib.Omega.{arith}
use native.Mathlib.Decide.{dec_lt}
use lib.Arith.{lt-one}
use lib.Pow.{pow_pos, pow_mono, pow-add, shr-shr, shl-shr, shr_le, field, mod-mod-pow, ones_split, ones_lt, le_ones, high, low}
use lib.Bits.{bit_xor, bit_and, bit_or, xor_shr, xor_mod, and_shr, and_mod, or_shr, or_mod, or_lt, or_zero_r, shifted_even, and_mask, xor_add_and}
use Rattle.fips202.specs.Keccak.{back}
use Rattle.fips202.specs.Lanes.{rotl, complement}
use Rattle.fips202.specs.Bytes.{bit}

pub bit-bit_xor : (z a b : ℕ) → bit z (bit_xor a b) ≡ bit_xor (bit z a) (bit z b)
bit-bit_xor z a b = ap (λ (n : ℕ). n % 2) (xor_shr a b z) ∙ xor_mod (a / 2 ^ z) (b / 2 ^ z) 1

pub bit-bit_and : (z a b : ℕ) → bit z (bit_and a b) ≡ bit_and (bit z a) (bit z b)
bit-bit_and z a b = ap (λ (n : ℕ). n % 2) (and_shr a b z) ∙ and_mod (a / 2 ^ z) (b / 2 ^ z) 1

pub bit-bit_or : (z a b : ℕ) → bit z (bit_or a b) ≡ bit_or (bit z a) (bit z b)
bit-bit_or z a b = ap (λ (n : ℕ). n % 2) (or_shr a b z) ∙ or_mod (a / 2 ^ z) (b / 2 ^ z) 1

-- ---- shifts

pub bit_shr : (z m x : ℕ) → bit z (x / 2 ^ m) ≡ bit (m + z) x
bit_shr z m x = ap (λ (n : ℕ). n % 2) (shr-shr x m z)

pub bit_shl : (z n x : ℕ) → bit (n + z) (x * 2 ^ n) ≡ bit z x
bit_shl z n x = sym (bit_shr z n (x * 2 ^ n)) ∙ ap (bit z) (shl-shr x n)

pub bit_shl_low : (z j x : ℕ) → bit z (x * 2 ^ (suc j + z)) ≡ 0
bit_shl_low z j x =
    ap (λ (n : ℕ). x * n / 2 ^ z % 2) (pow-add 2 (suc j) z)
    ∙ ap (λ (n : ℕ). n / 2 ^ z % 2) (sym (mul_assoc x (2 ^ suc j) (2 ^ z)))
    ∙ ap (λ (n : ℕ). n % 2) (shl-shr (x * 2 ^ suc j) z)
    ∙ shifted_even x j

pub bit_past : (z w x : ℕ) → x < 2 ^ w → w ≤ z → bit z x ≡ 0
bit_past z w x h l = ap (λ (n : ℕ). n % 2) (div-eq_of_lt (lt_of_lt_of_le h (pow_mono l)))

pub bit_mod : (z j x : ℕ) → bit z (x % 2 ^ (j + 1 + z)) ≡ bit z x
bit_mod z j x = ap (λ (n : ℕ). n % 2) (field x (j + 1) z) ∙ mod-mod-pow (x / 2 ^ z) j 1

pub bit_mod_lt : (z w x : ℕ) → z < w → bit z (x % 2 ^ w) ≡ bit z x
bit_mod_lt z w x h = ap (λ (n : ℕ). bit z (x % 2 ^ n)) (omega arith) ∙ bit_mod z (w - z - 1) x

-- ---- the complement

pub bit_ones : (z w : ℕ) → z < w → bit z (2 ^ w - 1) ≡ 1
bit_ones z w h =
    ap (λ (n : ℕ). bit z (2 ^ n - 1)) (omega arith)
    ∙ ap (bit z) (ones_split (w - z - 1 + 1) z)
    ∙ ap (λ (n : ℕ). n % 2) (high (2 ^ (w - z - 1 + 1) - 1) z (ones_lt z))
    ∙ ap (λ (n : ℕ). n % 2) (ones_split (w - z - 1) 1)
    ∙ low (2 ^ (w - z - 1) - 1) 1 (ones_lt 1)

pub not_xor : (w x : ℕ) → x < 2 ^ w → complement w x ≡ bit_xor x (2 ^ w - 1)
not_xor w x h = omega (arith, le_ones w h, xor_add_and x (2 ^ w - 1), and_mask x w, mod-eq_of_lt h)

pub bit_not : (z w x : ℕ) → z < w → x < 2 ^ w → bit z (complement w x) ≡ bit_xor (bit z x) 1
bit_not z w x hz hx = ap (bit z) (not_xor w x hx) ∙ bit-bit_xor z x (2 ^ w - 1) ∙ ap (bit_xor (bit z x)) (bit_ones z w hz)

-- ---- the rotation

pub rotl_lt : (w x n : ℕ) → x < 2 ^ w → rotl w x n < 2 ^ w
rotl_lt w x zero h = h
rotl_lt w x (suc n) h =
    or_lt w (x * 2 ^ suc n % 2 ^ w) (x / 2 ^ (w - suc n)) (mod-lt (x * 2 ^ suc n) (pow_pos w)) (omega (arith, shr_le x (w - suc n)))

module _ (w x n z : ℕ) (hx : x < 2 ^ w) (hn : suc n < w) (hz : z < w) where
  rotl_bits : bit z (rotl w x (suc n)) ≡ bit_or (bit z (x * 2 ^ suc n)) (bit (w - suc n + z) x)
  rotl_bits =
      bit-bit_or z (x * 2 ^ suc n % 2 ^ w) (x / 2 ^ (w - suc n))
      ∙ ap₂ bit_or (bit_mod_lt z w (x * 2 ^ suc n) hz) (bit_shr z (w - suc n) x)

  -- the bits that went round
  rotl_round : z < suc n → bit z (rotl w x (suc n)) ≡ bit ((z + (w - suc n)) % w) x
  rotl_round l =
      rotl_bits
      ∙ ap₂ (λ (i j : ℕ). bit_or (bit z (x * 2 ^ i)) (bit j x)) ie je
      ∙ ap (λ (b : ℕ). bit_or b (bit ((z + (w - suc n)) % w) x)) (bit_shl_low z (n - z) x)
    where
      ie : suc n ≡ suc (n - z) + z
      ie = omega arith

      je : w - suc n + z ≡ (z + (w - suc n)) % w
      je = omega (arith, mod-eq_of_lt {n = z + (w - suc n)} {m = w} (omega arith))

  -- the others
  rotl_up : suc n ≤ z → bit z (rotl w x (suc n)) ≡ bit ((z + (w - suc n)) % w) x
  rotl_up l =
      rotl_bits
      ∙ ap₂ bit_or (ap (λ (i : ℕ). bit i (x * 2 ^ suc n)) ie ∙ bit_shl (z - suc n) (suc n) x) (bit_past (w - suc n + z) w x hx (omega arith))
      ∙ or_zero_r (bit (z - suc n) x)
      ∙ ap (λ (i : ℕ). bit i x) je
    where
      ie : z ≡ suc n + (z - suc n)
      ie = omega arith

      je : z - suc n ≡ (z + (w - suc n)) % w
      je =
          omega
          (arith, mod-eq-sub-mod {n = z + (w - suc n)} {m = w} (omega arith), mod-eq_of_lt {n = z + (w - suc n) - w} {m = w} (omega arith))

pub back_zero : (w z : ℕ) → z < w → back w z 0 ≡ z
back_zero w z h = ap (λ (k : ℕ). (z + (w - k)) % w) (zero-mod w) ∙ ap (λ (k : ℕ). (z + k) % w) (sub-zero w) ∙ add-mod_right z w ∙ mod-eq_of_lt h

bit_rotl_lt : (w x n z : ℕ) → x < 2 ^ w → n < w → z < w → bit z (rotl w x n) ≡ bit ((z + (w - n)) % w) x
bit_rotl_lt w x zero z hx hn hz =
    ap (λ (i : ℕ). bit i x) (sym (ap (λ (k : ℕ). (z + k) % w) (sub-zero w) ∙ add-mod_right z w ∙ mod-eq_of_lt hz))
bit_rotl_lt w x (suc n) z hx hn hz = pick (dec_lt z (suc n))
  where
    pick : Dec (z < suc n) → bit z (rotl w x (suc n)) ≡ bit ((z + (w - suc n)) % w) x
    pick (yes l) = rotl_round w x n z hx hn hz l
    pick (no f) = rotl_up w x n z hx hn hz (omega arith)

-- bit z of x turned left by n, mod w, is bit (z - n) mod w of x
pub bit-rotl : (w x n z : ℕ) → x < 2 ^ w → z < w → bit z (rotl w x (n % w)) ≡ bit (back w z n) x
bit-rotl w x n z hx hz = bit_rotl_lt w x (n % w) z hx (mod-lt n (omega arith)) hz

-- ---- numbers of w bits with the same bits are equal

pub bit_suc : (z x : ℕ) → bit (suc z) x ≡ bit z (x / 2)
bit_suc z x = ap (λ (n : ℕ). bit n x) (omega arith) ∙ sym (bit_shr z 1 x)

half_lt_pow : (w x : ℕ) → x < 2 ^ suc w → x / 2 < 2 ^ w
half_lt_pow w x h = omega (arith, pow-suc 2 w)

pub ext_bit : (w x y : ℕ) → x < 2 ^ w → y < 2 ^ w → ((z : ℕ) → z < w → bit z x ≡ bit z y) → x ≡ y
ext_bit zero x y hx hy h = lt-one hx ∙ sym (lt-one hy)
ext_bit (suc w) x y hx hy h =
    let low : x / 1 % 2 ≡ y / 1 % 2 = h 0 (omega arith) in
    let halves : x / 2 ≡ y / 2 =
    ext_bit w (x / 2) (y / 2) (half_lt_pow w x hx) (half_lt_pow w y hy) (λ z l. sym (bit_suc z x) ∙ h (suc z) (omega arith) ∙ bit_suc z y) in
    omega arith
