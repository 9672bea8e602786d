-- Lanes of which the marked ones are complemented: their bits before chi, and that twice complemented is as it was. Over the lane width w.
-- Assumes nothing.
use mathlib.Core.Path.{◌≡◌, refl, sym, ap, ◌∙◌}
use mathlib.Core.List.{List}
use Prim.Native.Nat.{ℕ, zero, suc, ◌+◌, ◌*◌, ◌^◌, ◌<◌}
use native.Mathlib.Omega.{arith}
use lib.ListN.{length, get_or}
use lib.Pow.{ones_sub-lt, le_ones}
use lib.Bits.{bit_xor, xor_zero_r}
use Rattle.fips202.specs.Keccak.{Array, theta, rho}
use Rattle.fips202.specs.Bytes.{bit}
use Rattle.fips202.specs.Lanes.{lane, Fits, bits_of}
use Rattle.fips202.proofs.Bit.{bit_not}
use Rattle.fips202.proofs.Same.{Same}
use Rattle.fips202.proofs.Steps.{lanes_at, lanes-same, lanes-whole, fits-lanes, theta-same, rho-same, pi-same}
use Rattle.fips202.proofs.Rounds.{before_chi, array_before_chi, before_chi_bits}
use Rattle.keccak.specs.Complemented.{marks, by_mark, complemented_at, complemented}
use Rattle.keccak.proofs.Linear.{◌⊕◌, before_chi_xor}

-- ---- a lane by its mark

-- a mark as a bit, and a bit by its mark
abbrev mark_bit : ℕ → ℕ
mark_bit zero = 0
mark_bit (suc m) = 1

abbrev pub bit_by_mark : ℕ → ℕ → ℕ
bit_by_mark m u = bit_xor u (mark_bit m)

pub by_mark_lt : (w m x : ℕ) → x < 2 ^ w → by_mark w m x < 2 ^ w
by_mark_lt w zero x h = h
by_mark_lt w (suc m) x h = ones_sub-lt w x

pub by_mark-bit : (w m x z : ℕ) → x < 2 ^ w → z < w → bit z (by_mark w m x) ≡ bit_by_mark m (bit z x)
by_mark-bit w zero x z hx hz = sym (xor_zero_r (bit z x))
by_mark-bit w (suc m) x z hx hz = bit_not z w x hz hx

by_mark_twice : (w m x : ℕ) → x < 2 ^ w → by_mark w m (by_mark w m x) ≡ x
by_mark_twice w zero x h = refl
by_mark_twice w (suc m) x h = omega (arith, le_ones w h)

-- ---- all lanes

-- the marks as a state array: all bits of a lane have its mark
abbrev pub mark_array : Array
mark_array x y z = mark_bit (get_or marks (x + 5 * y) 0)

-- what theta, rho and pi make of it: the marks of the lanes that chi reads. All bits of a lane have one mark, so width 1 and bit 0 stand for any
abbrev pub marks_before_chi : ℕ → ℕ → ℕ
marks_before_chi x y = array_before_chi 1 mark_array x y 0

module _ (w : ℕ) (a : List ℕ) (f : Fits w a) where
  pub complemented-fits : Fits w (complemented w a)
  unfolding complemented
  complemented-fits = fits-lanes w (complemented_at w a) λ x y hx hy. by_mark_lt w (get_or marks (x + 5 * y) 0) (lane a x y) (f x y hx hy)

  complemented_bits : Same w (bits_of (complemented w a)) (bits_of a ⊕ mark_array)
  unfolding complemented
  complemented_bits x y z hx hy hz =
      ap (bit z) (lanes_at (complemented_at w a) x y hx hy) ∙ by_mark-bit w (get_or marks (x + 5 * y) 0) (lane a x y) z (f x y hx hy) hz

  -- the marks go through theta, rho and pi beside the lanes
  pub before_chi_marked : (x y z : ℕ) → x < 5 → y < 5 → z < w
      → bits_of (before_chi w (complemented w a)) x y z ≡ bit_xor (bits_of (before_chi w a) x y z) (marks_before_chi x y)
  before_chi_marked x y z hx hy hz =
      let A = bits_of a in
      let C = bits_of (complemented w a) in
      let M = A ⊕ mark_array in
      before_chi_bits w (complemented w a) complemented-fits x y z hx hy hz
      ∙ pi-same w (rho w (theta w C)) (rho w (theta w M)) (rho-same w (theta w C) (theta w M) (theta-same w C M complemented_bits)) x y z hx hy hz
      ∙ before_chi_xor w A mark_array x y z
      ∙ ap (λ (n : ℕ). bit_xor n (marks_before_chi x y)) (sym (before_chi_bits w a f x y z hx hy hz))

  pub complemented_twice : length a ≡ 25 → complemented w (complemented w a) ≡ a
  unfolding complemented
  complemented_twice long =
      lanes-same (complemented_at w (complemented w a)) (lane a)
      (λ x y hx hy.
      let mark = get_or marks (x + 5 * y) 0 in
      ap (by_mark w mark) (lanes_at (complemented_at w a) x y hx hy) ∙ by_mark_twice w mark (lane a x y) (f x y hx hy))
      ∙ lanes-whole a long
