-- Lanes of m bytes, the least significant byte first, and the string of the same bytes have the same bits: bit z of lane i is bit z mod 8
-- of byte m i + z / 8. Over m. Assumes nothing.
use mathlib.Core.Path.{◌≡◌, sym, ap, ap₂, ◌∙◌, subst⁻¹}
use mathlib.Core.List.{List, [], ◌∷◌, map}
use Prim.Native.Nat.{ℕ, suc, ◌+◌, ◌*◌, ◌-◌, ◌/◌, ◌%◌, ◌^◌, ◌<◌}
use native.Mathlib.Nat.{mul_assoc, zero-div, lt_of_lt_of_le, mod-lt}
use native.Mathlib.Omega.{arith}
use native.Mathlib.Decide.{dec_lt}
use lib.ListN.{length, get_or}
use lib.Pow.{pow-add, pow_mono}
use Rattle.fips202.specs.Keccak.{count_from, array_of}
use Rattle.fips202.specs.Bytes.{bit, AreBytes, bits_of_bytes}
use Rattle.fips202.specs.Lanes.{Fits, bits_of, le_number, lane_of_bytes, lanes_of_bytes, byte, bytes_of_lanes}
use Rattle.fips202.proofs.Count.{length_upto, get_or-upto, each_upto}
use Rattle.fips202.proofs.Bit.{bit_mod_lt, bit_shr}
use Rattle.fips202.proofs.Same.{Same}
use Rattle.fips202.proofs.Strings.{place_lt, place_div, place_mod}

bit_zero : (z : ℕ) → bit z 0 ≡ 0
bit_zero z = ap (λ (n : ℕ). n % 2) (zero-div (2 ^ z))

-- bit z of the number that bytes stand for is bit z mod 8 of byte z / 8
bit-le_number : (bs : List ℕ) → AreBytes bs → (z : ℕ) → bit z (le_number bs) ≡ bit (z % 8) (get_or bs (z / 8) 0)
bit-le_number [] h z = bit_zero z ∙ sym (bit_zero (z % 8))
bit-le_number (b ∷ bs) h z = pick (dec_lt z 8) (bit-le_number bs (λ j. h (suc j)) (z - 8))
  where
    pick : Dec (z < 8) → bit (z - 8) (le_number bs) ≡ bit ((z - 8) % 8) (get_or bs ((z - 8) / 8) 0)
        → bit z (b + 2 ^ 8 * le_number bs) ≡ bit (z % 8) (get_or (b ∷ bs) (z / 8) 0)
    pick (yes l) r =
        let low8 : (b + 2 ^ 8 * le_number bs) % 2 ^ 8 ≡ b = omega (arith, h 0) in
        let i : z ≡ z % 8 = omega arith in
        let j : 0 ≡ z / 8 = omega arith in
        sym (bit_mod_lt z 8 (b + 2 ^ 8 * le_number bs) l) ∙ ap (bit z) low8 ∙ ap₂ (λ (i j : ℕ). bit i (get_or (b ∷ bs) j 0)) i j
    pick (no f) r =
        let up : z ≡ 8 + (z - 8) = omega arith in
        let high : (b + 2 ^ 8 * le_number bs) / 2 ^ 8 ≡ le_number bs = omega (arith, h 0) in
        let i : (z - 8) % 8 ≡ z % 8 = omega arith in
        let j : suc ((z - 8) / 8) ≡ z / 8 = omega arith in
        ap (λ (i : ℕ). bit i (b + 2 ^ 8 * le_number bs)) up ∙ sym (bit_shr (z - 8) 8 (b + 2 ^ 8 * le_number bs)) ∙ ap (bit (z - 8)) high
        ∙ r ∙ ap₂ (λ (i j : ℕ). bit i (get_or (b ∷ bs) j 0)) i j

le_number_lt : (bs : List ℕ) → AreBytes bs → le_number bs < 2 ^ (8 * length bs)
le_number_lt [] h = omega arith
le_number_lt (b ∷ bs) h =
    subst⁻¹ (λ (n : ℕ). b + 2 ^ 8 * le_number bs < 2 ^ n) {y = 8 + 8 * length bs} (omega arith)
    (omega (arith, h 0, le_number_lt bs (λ j. h (suc j)), pow-add 2 8 (8 * length bs)))

-- ---- the lanes of a state's bytes

module _ (m : ℕ) (s : List ℕ) (h : AreBytes s) where
  lane_bytes : ℕ → List ℕ
  lane_bytes i = map (λ k. get_or s (m * i + k) 0) (count_from 0 m)

  part : (i : ℕ) → AreBytes (lane_bytes i)
  unfolding lane_bytes
  part i = each_upto (λ k. get_or s (m * i + k) 0) m (λ (n : ℕ). n < 2 ^ 8) (omega arith) (λ k l. h (m * i + k))

  pub lanes_fit : Fits (8 * m) (lanes_of_bytes m s)
  unfolding lane_bytes
  lanes_fit x y hx hy =
      let i = x + 5 * y in
      subst⁻¹ (λ (n : ℕ). n < 2 ^ (8 * m)) (get_or-upto (lane_of_bytes m s) 25 i (omega arith))
      (lt_of_lt_of_le (le_number_lt (lane_bytes i) (part i)) (pow_mono (omega (arith, length_upto (λ k. get_or s (m * i + k) 0) m))))

  bit-lane : (i z : ℕ) → i < 25 → z < 8 * m → bit z (get_or (lanes_of_bytes m s) i 0) ≡ bit (z % 8) (get_or s (m * i + z / 8) 0)
  unfolding lane_bytes
  bit-lane i z hi hz =
      ap (bit z) (get_or-upto (lane_of_bytes m s) 25 i hi)
      ∙ bit-le_number (lane_bytes i) (part i) z
      ∙ ap (bit (z % 8)) (get_or-upto (λ k. get_or s (m * i + k) 0) m (z / 8) (omega arith))

-- ---- the string of a state's bytes, as a state array

-- the place of bit z of lane q, in bytes
module _ (m q z : ℕ) where
  byte_div : (8 * m * q + z) / 8 ≡ m * q + z / 8
  byte_div = ap (λ (n : ℕ). (n + z) / 8) (mul_assoc 8 m q) ∙ omega arith

  byte_mod : (8 * m * q + z) % 8 ≡ z % 8
  byte_mod = ap (λ (n : ℕ). (n + z) % 8) (mul_assoc 8 m q) ∙ omega arith

array_bytes : (m : ℕ) (s : List ℕ) (x y z : ℕ) → x < 5 → y < 5 → z < 8 * m
    → array_of (8 * m) (bits_of_bytes (m * 25) s) x y z ≡ bit (z % 8) (get_or s (m * (x + 5 * y) + z / 8) 0)
array_bytes m s x y z hx hy hz =
    let q = 5 * y + x in
    get_or-upto (λ i. bit (i % 8) (get_or s (i / 8) 0)) (8 * (m * 25)) (8 * m * q + z) (omega (arith, place_lt (8 * m) q z hz (omega arith)))
    ∙ ap₂ (λ (i j : ℕ). bit i (get_or s j 0)) (byte_mod m q z) (byte_div m q z)
    ∙ ap (λ (k : ℕ). bit (z % 8) (get_or s (m * k + z / 8) 0)) (omega arith)

-- bytes and their lanes are one state
pub lanes_array : (m : ℕ) (s : List ℕ) → AreBytes s → Same (8 * m) (bits_of (lanes_of_bytes m s)) (array_of (8 * m) (bits_of_bytes (m * 25) s))
lanes_array m s h x y z hx hy hz = bit-lane m s h (x + 5 * y) z (omega arith) hz ∙ sym (array_bytes m s x y z hx hy hz)

-- and so are lanes and their bytes
pub bytes_array : (m : ℕ) (a : List ℕ) → Same (8 * m) (array_of (8 * m) (bits_of_bytes (m * 25) (bytes_of_lanes m a))) (bits_of a)
bytes_array m a x y z hx hy hz =
    let q = x + 5 * y in
    let k : z / 8 < m = omega arith in
    let x = get_or a q 0 in
    array_bytes m (bytes_of_lanes m a) _ _ z hx hy hz
    ∙ ap (bit (z % 8))
    (get_or-upto (λ j. byte (j % m) (get_or a (j / m) 0)) (m * 25) (m * q + z / 8) (omega (arith, place_lt m q (z / 8) k (omega arith)))
    ∙ ap₂ (λ (i j : ℕ). byte j (get_or a i 0)) (place_div m q (z / 8) k) (place_mod m q (z / 8) k))
    ∙ bit_mod_lt (z % 8) 8 (x / 2 ^ (8 * (z / 8))) (omega arith)
    ∙ bit_shr (z % 8) (8 * (z / 8)) x
    ∙ ap (λ (i : ℕ). bit i x) (omega arith)

pub bytes_of-lanes : (m : ℕ) (a : List ℕ) → AreBytes (bytes_of_lanes m a)
bytes_of-lanes m a =
    each_upto (λ j. byte (j % m) (get_or a (j / m) 0)) (m * 25) (λ (n : ℕ). n < 2 ^ 8) (omega arith)
    (λ j l. mod-lt (get_or a (j / m) 0 / 2 ^ (8 * (j % m))) (omega arith))
