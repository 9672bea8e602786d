-- Strings of 25 w bits and state arrays (FIPS 202, 3.1.2 and 3.1.3) are the same thing; rounds from string to string, as an engine on
-- single bits makes them, are KECCAK-f; and they agree with the rounds on lanes, on every state. Over l, w = 2 ^ l. Assumes nothing.
use mathlib.Core.Path.{◌≡◌, sym, ap, ap₂, ◌∙◌, subst}
use mathlib.Core.List.{List}
use Prim.Native.Nat.{ℕ, zero, suc, ◌+◌, ◌*◌, ◌-◌, ◌/◌, ◌%◌, ◌^◌, ◌<◌}
use native.Mathlib.Nat.{mul_comm, mod-lt, div-lt_iff_lt-mul, div-add-mod}
use native.Mathlib.Omega.{arith}
use lib.ListN.{length, get_or}
use lib.Seq.{ext_get_or}
use lib.Arith.{digits_lt, digits_div, digits_mod}
use Rattle.fips202.specs.Keccak.{Array, array_of, string_of, rnd, rounds, keccak_p, keccak_f}
use Rattle.fips202.specs.Lanes.{Fits, bits_of, rounds_lanes}
use Rattle.fips202.proofs.Count.{length_upto, get_or-upto}
use Rattle.fips202.proofs.Same.{Same, same_refl, same_sym, same_trans}
use Rattle.fips202.proofs.Rounds.{rnd-same, rounds-same, rounds_next, rounds_bits}

-- ---- 3.1.2 and 3.1.3

-- the place of bit z of lane q
module _ (w q z : ℕ) (hz : z < w) where
  pub place_div : (w * q + z) / w ≡ q
  place_div = ap (λ (n : ℕ). (n + z) / w) (mul_comm w q) ∙ digits_div q hz

  pub place_mod : (w * q + z) % w ≡ z
  place_mod = ap (λ (n : ℕ). (n + z) % w) (mul_comm w q) ∙ digits_mod q hz

  pub place_lt : q < 25 → w * q + z < 25 * w
  place_lt hq = subst (λ (n : ℕ). n + z < 25 * w) (mul_comm q w) (digits_lt hq hz)

-- strings of 25 w bits with the same state array are equal
pub ext_array : (w : ℕ) (S T : List ℕ) → length S ≡ 25 * w → length T ≡ 25 * w → Same w (array_of w S) (array_of w T) → S ≡ T
ext_array w S T hs ht h = ext_get_or 0 S T (hs ∙ sym ht) at
  where
    at : (i : ℕ) → i < length S → get_or S i 0 ≡ get_or T i 0
    at i l =
        let i< : i < 25 * w = subst (λ (n : ℕ). i < n) hs l in
        let w> : 0 < w = omega arith in
        let q< : i / w < 25 = (div-lt_iff_lt-mul w>).1 i< in
        let place : w * (5 * (i / w / 5) + i / w % 5) + i % w ≡ i =
        ap (λ (n : ℕ). w * n + i % w) (omega arith) ∙ div-add-mod i w in
        subst (λ (n : ℕ). get_or S n 0 ≡ get_or T n 0) place (h (i / w % 5) (i / w / 5) (i % w) (omega arith) (omega arith) (mod-lt i w>))

module _ (w : ℕ) (A : Array) where
  abbrev bit_at : ℕ → ℕ
  bit_at i = A (i / w % 5) (i / w / 5) (i % w)

  pub length_string : length (string_of w A) ≡ 25 * w
  unfolding string_of
  length_string = length_upto bit_at (25 * w)

  -- an array, written as a string and read again
  pub array_string : Same w (array_of w (string_of w A)) A
  unfolding string_of
  array_string x y z hx hy hz =
      let q = 5 * y + x in
      get_or-upto bit_at (25 * w) (w * q + z) (place_lt w q z hz (omega arith))
      ∙ ap₂ (λ (q k : ℕ). A (q % 5) (q / 5) k) (place_div w q z hz) (place_mod w q z hz)
      ∙ ap₂ (λ (i j : ℕ). A i j z) (omega arith) (omega arith)

  -- the string of an array is the one string that has its bits: what a loop over all places has shown at its end
  pub string_by_places : (S : List ℕ) → length S ≡ 25 * w → ((i : ℕ) → i < 25 * w → get_or S i 0 ≡ bit_at i) → S ≡ string_of w A
  unfolding string_of
  string_by_places S n h =
      ext_get_or 0 S (string_of w A) (n ∙ sym length_string)
      (λ i l. let k : i < 25 * w = subst (λ (m : ℕ). i < m) n l in h i k ∙ sym (get_or-upto bit_at (25 * w) i k))

  pub string_of-array_of : (S : List ℕ) → length S ≡ 25 * w → Same w (array_of w S) A → S ≡ string_of w A
  string_of-array_of S n h =
      ext_array w S (string_of w A) n length_string
      (same_trans w (array_of w S) A (array_of w (string_of w A)) h (same_sym w (array_of w (string_of w A)) A array_string))

pub string_same : (w : ℕ) (A B : Array) → Same w A B → string_of w A ≡ string_of w B
string_same w A B h =
    string_of-array_of w B (string_of w A) (length_string w A) (same_trans w (array_of w (string_of w A)) A B (array_string w A) h)

-- ---- an engine on single bits: each round reads a string and writes a string

unfoldable pub rounds_on_strings : ℕ → ℕ → List ℕ → List ℕ
rounds_on_strings l zero S = S
rounds_on_strings l (suc n) S = string_of (2 ^ l) (rnd l n (array_of (2 ^ l) (rounds_on_strings l n S)))

rounds_on_strings_same : (l n : ℕ) (S : List ℕ) → Same (2 ^ l) (array_of (2 ^ l) (rounds_on_strings l n S)) (rounds l 0 n (array_of (2 ^ l) S))
unfolding rounds_on_strings rounds
rounds_on_strings_same l zero S = same_refl (2 ^ l) (array_of (2 ^ l) S)
rounds_on_strings_same l (suc n) S =
    let w = 2 ^ l in
    let A = array_of w (rounds_on_strings l n S) in
    rw (rounds_next l n (array_of w S))
    (same_trans w (array_of w (string_of w (rnd l n A))) (rnd l n A) (rnd l n (rounds l 0 n (array_of w S))) (array_string w (rnd l n A))
    (rnd-same l n A (rounds l 0 n (array_of w S)) (rounds_on_strings_same l n S)))

pub length_rounds_on_strings : (l n : ℕ) (S : List ℕ) → length S ≡ 25 * 2 ^ l → length (rounds_on_strings l n S) ≡ 25 * 2 ^ l
unfolding rounds_on_strings
length_rounds_on_strings l zero S h = h
length_rounds_on_strings l (suc n) S h = length_string (2 ^ l) (rnd l n (array_of (2 ^ l) (rounds_on_strings l n S)))

pub engine_rounds : (l n : ℕ) (S : List ℕ) → length S ≡ 25 * 2 ^ l → rounds_on_strings l n S ≡ string_of (2 ^ l) (rounds l 0 n (array_of (2 ^ l) S))
engine_rounds l n S h = string_of-array_of (2 ^ l) (rounds l 0 n (array_of (2 ^ l) S)) (rounds_on_strings l n S) (length_rounds_on_strings l n S h) (rounds_on_strings_same l n S)

-- ---- KECCAK-f

-- all 12 + 2 l rounds, from round 0 on
pub keccak_f-rounds : (l : ℕ) (S : List ℕ) → keccak_f l S ≡ string_of (2 ^ l) (rounds l 0 (12 + 2 * l) (array_of (2 ^ l) S))
unfolding keccak_f keccak_p
keccak_f-rounds l S =
    let first : 12 + 2 * l - (12 + 2 * l) ≡ 0 = omega arith in
    ap (λ (i : ℕ). string_of (2 ^ l) (rounds l i (12 + 2 * l) (array_of (2 ^ l) S))) first

-- the engine on single bits makes KECCAK-f
pub keccak_f_engine : (l : ℕ) (S : List ℕ) → length S ≡ 25 * 2 ^ l → rounds_on_strings l (12 + 2 * l) S ≡ keccak_f l S
keccak_f_engine l S h = engine_rounds l (12 + 2 * l) S h ∙ sym (keccak_f-rounds l S)

-- and so do the rounds on lanes: strings and lanes agree on every state
pub keccak_f-lanes : (l : ℕ) (a : List ℕ) → Fits (2 ^ l) a → keccak_f l (string_of (2 ^ l) (bits_of a)) ≡ string_of (2 ^ l) (bits_of (rounds_lanes l (12 + 2 * l) a))
keccak_f-lanes l a f =
    let w = 2 ^ l in
    let n = 12 + 2 * l in
    let A = bits_of a in
    let S = string_of w A in
    keccak_f-rounds l S
    ∙ string_same w (rounds l 0 n (array_of w S)) (bits_of (rounds_lanes l n a))
    (same_trans w (rounds l 0 n (array_of w S)) (rounds l 0 n A) (bits_of (rounds_lanes l n a)) (rounds-same l 0 n (array_of w S) A (array_string w A))
    (same_sym w (bits_of (rounds_lanes l n a)) (rounds l 0 n A) (rounds_bits l a f n)))

pub engines_agree : (l : ℕ) (a : List ℕ) → Fits (2 ^ l) a → rounds_on_strings l (12 + 2 * l) (string_of (2 ^ l) (bits_of a)) ≡ string_of (2 ^ l) (bits_of (rounds_lanes l (12 + 2 * l) a))
engines_agree l a f = keccak_f_engine l (string_of (2 ^ l) (bits_of a)) (length_string (2 ^ l) (bits_of a)) ∙ keccak_f-lanes l a f
