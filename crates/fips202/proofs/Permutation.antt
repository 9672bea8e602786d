-- What is known of KECCAK-f on bytes, and all that callers need: the rounds on lanes make it, it keeps the length, and it gives bytes,
-- whatever it is given. Over l, with m = 2 ^ l / 8 bytes a lane; at the end for KECCAK-f[1600]. Assumes nothing.
use mathlib.Core.Path.{◌≡◌, refl, sym, ap, ◌∙◌, subst}
use mathlib.Core.List.{List}
use Prim.Native.Nat.{ℕ, ◌+◌, ◌*◌, ◌/◌, ◌%◌, ◌^◌}
use native.Mathlib.Omega.{arith}
use lib.ListN.{length, get_or}
use Rattle.fips202.specs.Keccak.{array_of, rounds, keccak_f}
use Rattle.fips202.specs.Bytes.{number, AreBytes, bits_of_bytes, bytes_of_bits, on_bytes, keccak_f1600}
use Rattle.fips202.specs.Lanes.{Fits, bits_of, rounds_lanes, lanes_of_bytes, byte, bytes_of_lanes}
use Rattle.fips202.proofs.Count.{length_upto}
use Rattle.fips202.proofs.ByteStrings.{bit_at, bytes_back, bytes_in, are_bytes_in, bits_of_bytes_in}
use Rattle.fips202.proofs.Same.{Same, same_trans}
use Rattle.fips202.proofs.Rounds.{rounds-same, rounds_bits}
use Rattle.fips202.proofs.Strings.{string_of-array_of, keccak_f-rounds}
use Rattle.fips202.proofs.Bytes.{lanes_fit, lanes_array, bytes_array, bytes_of-lanes}

-- ---- KECCAK-f[25 w] on bytes, 8 m = w

module _ (l m : ℕ) (e : 8 * m ≡ 2 ^ l) where
  -- all rounds, on the lanes of bytes and back
  pub through_lanes : List ℕ → List ℕ
  through_lanes s = bytes_of_lanes m (rounds_lanes l (12 + 2 * l) (lanes_of_bytes m s))

  lanes_bits : (s : List ℕ) → AreBytes s → bits_of_bytes (m * 25) (through_lanes s) ≡ keccak_f l (bits_of_bytes (m * 25) s)
  unfolding through_lanes
  lanes_bits s h =
      let w = 2 ^ l in
      let n = 12 + 2 * l in
      let a = lanes_of_bytes m s in
      let r = rounds_lanes l n a in
      let S = bits_of_bytes (m * 25) s in
      let R = bits_of_bytes (m * 25) (bytes_of_lanes m r) in
      let f : Fits w a = subst (λ (v : ℕ). Fits v a) e (lanes_fit m s h) in
      let into : Same w (bits_of a) (array_of w S) = subst (λ (v : ℕ). Same v (bits_of a) (array_of v S)) e (lanes_array m s h) in
      let out : Same w (array_of w R) (bits_of r) = subst (λ (v : ℕ). Same v (array_of v R) (bits_of r)) e (bytes_array m r) in
      let long : length R ≡ 25 * w = length_upto (bit_at (m * 25) (bytes_of_lanes m r)) (8 * (m * 25)) ∙ omega (arith, e) in
      string_of-array_of w (rounds l 0 n (array_of w S)) R long
      (same_trans w (array_of w R) (bits_of r) (rounds l 0 n (array_of w S)) out
      (same_trans w (bits_of r) (rounds l 0 n (bits_of a)) (rounds l 0 n (array_of w S)) (rounds_bits l a f n) (rounds-same l 0 n (bits_of a) (array_of w S) into)))
      ∙ sym (keccak_f-rounds l S)

  size : 25 * 2 ^ l / 8 ≡ m * 25
  size = omega (arith, e)

  pub lanes_make_it : (s : List ℕ) → AreBytes s → through_lanes s ≡ on_bytes l s
  unfolding on_bytes through_lanes
  lanes_make_it s h =
      let r = through_lanes s in
      sym (bytes_back (m * 25) r (length_upto (λ j. byte (j % m) (get_or (rounds_lanes l (12 + 2 * l) (lanes_of_bytes m s)) (j / m) 0)) (m * 25))
      (bytes_of-lanes m (rounds_lanes l (12 + 2 * l) (lanes_of_bytes m s))))
      ∙ ap (bytes_of_bits (m * 25)) (lanes_bits s h)
      ∙ ap (λ (n : ℕ). bytes_of_bits n (keccak_f l (bits_of_bytes n s))) (sym size)

  pub keeps_length : (s : List ℕ) → length (on_bytes l s) ≡ m * 25
  unfolding on_bytes
  keeps_length s = length_upto (λ j. number 8 (λ i. get_or (keccak_f l (bits_of_bytes (25 * 2 ^ l / 8) s)) (8 * j + i) 0)) (25 * 2 ^ l / 8) ∙ size

  pub gives_bytes : (s : List ℕ) → AreBytes (on_bytes l s)
  unfolding on_bytes through_lanes
  gives_bytes s =
      let n = 25 * 2 ^ l / 8 in
      let same : on_bytes l (bytes_in n s) ≡ on_bytes l s = ap (λ (S : List ℕ). bytes_of_bits n (keccak_f l S)) (bits_of_bytes_in n s) in
      subst AreBytes (lanes_make_it (bytes_in n s) (are_bytes_in n s) ∙ same) (bytes_of-lanes m (rounds_lanes l (12 + 2 * l) (lanes_of_bytes m (bytes_in n s))))

-- ---- KECCAK-f[1600] on 200 bytes

pub keccak_f1600-lanes : (s : List ℕ) → AreBytes s → bytes_of_lanes 8 (rounds_lanes 6 24 (lanes_of_bytes 8 s)) ≡ keccak_f1600 s
unfolding keccak_f1600 through_lanes
keccak_f1600-lanes s h = lanes_make_it 6 8 refl s h

pub keccak_f1600-length : (s : List ℕ) → length (keccak_f1600 s) ≡ 200
unfolding keccak_f1600
keccak_f1600-length s = keeps_length 6 8 refl s

pub keccak_f1600-bytes : (s : List ℕ) → AreBytes (keccak_f1600 s)
unfolding keccak_f1600
keccak_f1600-bytes s = gives_bytes 6 8 refl s
