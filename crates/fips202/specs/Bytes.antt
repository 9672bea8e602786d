-- FIPS 202, appendix B.1: a string of bits as bytes, and KECCAK-f on the bytes of a state.
use Rattle.std.specs.Prelude.{List, map, ℕ, zero, suc, ◌+◌, ◌*◌, ◌/◌, ◌%◌, ◌^◌, ◌<◌, get_or}
use Rattle.fips202.specs.Keccak.{count_from, keccak_f}

-- bit z of a number, and the number of the bits f 0, f 1, .., f (w - 1), the least significant first
abbrev pub bit : ℕ → ℕ → ℕ
bit z n = n / 2 ^ z % 2

abbrev pub number : ℕ → (ℕ → ℕ) → ℕ
number zero f = 0
number (suc w) f = f 0 + 2 * number w (λ z. f (suc z))

abbrev pub AreBytes : List ℕ → Type 0
AreBytes s = (j : ℕ) → get_or s j 0 < 2 ^ 8

-- Algorithm 10: the string of n bytes. Bit i of byte j is S[8 j + i]
abbrev pub bits_of_bytes : ℕ → List ℕ → List ℕ
bits_of_bytes n s = map (λ i. bit (i % 8) (get_or s (i / 8) 0)) (count_from 0 (8 * n))

-- Algorithm 11: the n bytes of a string
abbrev pub bytes_of_bits : ℕ → List ℕ → List ℕ
bytes_of_bits n S = map (λ j. number 8 (λ i. get_or S (8 * j + i) 0)) (count_from 0 n)

-- KECCAK-f[25 w] on the 25 w / 8 bytes of a state
unfoldable pub on_bytes : ℕ → List ℕ → List ℕ
on_bytes l s = bytes_of_bits (25 * 2 ^ l / 8) (keccak_f l (bits_of_bytes (25 * 2 ^ l / 8) s))

-- KECCAK-f[1600] on 200 bytes: the one definition that code and callers cite. No caller opens it; proofs/Permutation has what they need
unfoldable pub keccak_f1600 : List ℕ → List ℕ
keccak_f1600 s = on_bytes 6 s
