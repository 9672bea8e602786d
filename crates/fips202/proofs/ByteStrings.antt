-- Bytes as a string of bits (FIPS 202, B.1): written and read again they are the same bytes, and of a number only its byte is written.
-- Assumes nothing.
use mathlib.Core.Path.{◌≡◌, sym, ap, ap₂, ◌∙◌}
use mathlib.Core.List.{List, map}
use Prim.Native.Nat.{ℕ, ◌+◌, ◌*◌, ◌/◌, ◌%◌, ◌^◌, ◌<◌}
use native.Mathlib.Nat.{mod-lt}
use native.Mathlib.Omega.{arith}
use lib.ListN.{length, get_or}
use lib.Seq.{ext_get_or}
use Rattle.fips202.specs.Keccak.{count_from}
use Rattle.fips202.specs.Bytes.{bit, number, AreBytes, bits_of_bytes, bytes_of_bits}
use Rattle.fips202.proofs.Count.{length_upto, get_or-upto, each_upto, same_upto}
use Rattle.fips202.proofs.Bit.{bit_mod_lt}
use Rattle.fips202.proofs.Number.{number_same, number_bits}

module _ (n : ℕ) (s : List ℕ) where
  abbrev pub bit_at : ℕ → ℕ
  bit_at i = bit (i % 8) (get_or s (i / 8) 0)

  -- bit i of byte j
  bit-at : (j i : ℕ) → j < n → i < 8 → get_or (bits_of_bytes n s) (8 * j + i) 0 ≡ bit i (get_or s j 0)
  bit-at j i hj hi =
      let q : (8 * j + i) / 8 ≡ j = omega arith in
      let r : (8 * j + i) % 8 ≡ i = omega arith in
      get_or-upto bit_at (8 * n) (8 * j + i) (omega arith) ∙ ap₂ (λ (i j : ℕ). bit i (get_or s j 0)) r q

  pub bytes_back : length s ≡ n → AreBytes s → bytes_of_bits n (bits_of_bytes n s) ≡ s
  bytes_back e h = ext_get_or 0 (bytes_of_bits n S) s (length_upto byte_at n ∙ sym e) at
    where
      S : List ℕ
      S = bits_of_bytes n s

      byte_at : ℕ → ℕ
      byte_at j = number 8 (λ i. get_or S (8 * j + i) 0)

      at : (j : ℕ) → j < length (bytes_of_bits n S) → get_or (bytes_of_bits n S) j 0 ≡ get_or s j 0
      at j l =
          let k : j < n = omega (arith, length_upto byte_at n) in
          get_or-upto byte_at n j k ∙ number_same 8 (λ i. get_or S (8 * j + i) 0) (λ i. bit i (get_or s j 0)) (λ i hi. bit-at j i k hi)
          ∙ number_bits 8 (get_or s j 0) (h j)

-- of each number only its byte is read
abbrev pub bytes_in : ℕ → List ℕ → List ℕ
bytes_in n s = map (λ j. get_or s j 0 % 2 ^ 8) (count_from 0 n)

pub are_bytes_in : (n : ℕ) (s : List ℕ) → AreBytes (bytes_in n s)
are_bytes_in n s = each_upto (λ j. get_or s j 0 % 2 ^ 8) n (λ (b : ℕ). b < 2 ^ 8) (omega arith) (λ j l. mod-lt (get_or s j 0) (omega arith))

pub bits_of_bytes_in : (n : ℕ) (s : List ℕ) → bits_of_bytes n (bytes_in n s) ≡ bits_of_bytes n s
bits_of_bytes_in n s =
    same_upto (bit_at n (bytes_in n s)) (bit_at n s) (8 * n)
    λ i h. ap (bit (i % 8)) (get_or-upto (λ j. get_or s j 0 % 2 ^ 8) n (i / 8) (omega arith)) ∙ bit_mod_lt (i % 8) 8 (get_or s (i / 8) 0) (omega arith)
