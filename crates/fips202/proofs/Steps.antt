-- Each step mapping on lanes has exactly the bits of FIPS 202's step mapping on bits, over the lane width w; and FIPS 202's step mappings
-- read a state array at x, y < 5 and z < w alone. Assumes nothing.
use mathlib.Core.Path.{◌≡◌, sym, ap, ap₂, ◌∙◌, subst⁻¹}
use mathlib.Core.Logic.{◌≢◌}
use mathlib.Core.List.{List}
use Prim.Native.Nat.{ℕ, zero, suc, ◌+◌, ◌*◌, ◌-◌, ◌/◌, ◌%◌, ◌^◌, ◌<◌}
use native.Mathlib.Nat.{mod-lt}
use native.Mathlib.Omega.{arith}
use lib.ListN.{length, get_or}
use lib.Seq.{ext_get_or, get_or-set_same, get_or-set_other}
use lib.Pow.{ones_sub-lt}
use lib.Bits.{bit_xor, bit_and, xor_lt, and_lt}
use Rattle.fips202.specs.Keccak.{Array, back, theta_c, theta, offset, rho, pi, chi, RC, iota}
use Rattle.fips202.specs.Bytes.{bit}
use Rattle.fips202.specs.Lanes.{lane, lanes, Fits, bits_of, rotl, complement, column, theta_at, theta_lanes, offsets, rho_at, rho_lanes, pi_at, pi_lanes, chi_at, chi_lanes, iota_lanes, round_constant}
use Rattle.fips202.proofs.Count.{get_or-upto, same_upto}
use Rattle.fips202.proofs.Bit.{bit-bit_xor, bit-bit_and, bit_not, bit-rotl, rotl_lt}
use Rattle.fips202.proofs.Same.{Same}
use Rattle.fips202.proofs.Rho.{table_2}
use Rattle.fips202.proofs.RoundConstant.{constant_lt, constant_bits}

-- ---- FIPS 202's steps on two arrays that are one state

module _ (w : ℕ) (A B : Array) (h : Same w A B) where
  column-same : (x z : ℕ) → x < 5 → z < w → theta_c A x z ≡ theta_c B x z
  column-same x z hx hz =
      let e : (y : ℕ) → y < 5 → A x y z ≡ B x y z = λ y hy. h x y z hx hy hz in
      ap₂ bit_xor
      (ap₂ bit_xor (ap₂ bit_xor (ap₂ bit_xor (e 0 (omega arith)) (e 1 (omega arith))) (e 2 (omega arith))) (e 3 (omega arith)))
      (e 4 (omega arith))

  pub theta-same : Same w (theta w A) (theta w B)
  theta-same x y z hx hy hz =
      ap₂ bit_xor (h x y z hx hy hz)
      (ap₂ bit_xor (column-same ((x + 4) % 5) z (omega arith) hz)
      (column-same ((x + 1) % 5) (back w z 1) (omega arith) (mod-lt (z + (w - 1 % w)) (omega arith))))

  pub rho-same : Same w (rho w A) (rho w B)
  rho-same x y z hx hy hz = h x y (back w z (offset x y)) hx hy (mod-lt (z + (w - offset x y % w)) (omega arith))

  pub pi-same : Same w (pi A) (pi B)
  pi-same x y z hx hy hz = h ((x + 3 * y) % 5) x z (omega arith) hx hz

  pub chi-same : Same w (chi A) (chi B)
  chi-same x y z hx hy hz =
      ap₂ bit_xor (h x y z hx hy hz)
      (ap₂ bit_and (ap (λ (b : ℕ). bit_xor b 1) (h ((x + 1) % 5) y z (omega arith) hy hz)) (h ((x + 2) % 5) y z (omega arith) hy hz))

  pub iota-same : (l ir : ℕ) → Same w (iota l ir A) (iota l ir B)
  iota-same l ir zero zero z hx hy hz = ap (λ (b : ℕ). bit_xor b (RC l ir z)) (h 0 0 z hx hy hz)
  iota-same l ir zero (suc y) z hx hy hz = h 0 (suc y) z hx hy hz
  iota-same l ir (suc x) y z hx hy hz = h (suc x) y z hx hy hz

-- ---- lanes made place by place

pub lanes_at : (f : ℕ → ℕ → ℕ) (x y : ℕ) → x < 5 → y < 5 → lane (lanes f) x y ≡ f x y
lanes_at f x y hx hy = get_or-upto (λ i. f (i % 5) (i / 5)) 25 (x + 5 * y) (omega arith) ∙ ap₂ f (omega arith) (omega arith)

-- the same lanes at each place, and 25 lanes as the lanes at their places
pub lanes-same : (f g : ℕ → ℕ → ℕ) → ((x y : ℕ) → x < 5 → y < 5 → f x y ≡ g x y) → lanes f ≡ lanes g
lanes-same f g h = same_upto (λ i. f (i % 5) (i / 5)) (λ i. g (i % 5) (i / 5)) 25 (λ i b. h (i % 5) (i / 5) (omega arith) (omega arith))

pub lanes-whole : (a : List ℕ) → length a ≡ 25 → lanes (lane a) ≡ a
lanes-whole a long =
    ext_get_or 0 (lanes (lane a)) a (sym long)
    (λ i h.
    let place : i % 5 + 5 * (i / 5) ≡ i = omega arith in
    get_or-upto (λ i. lane a (i % 5) (i / 5)) 25 i h ∙ ap (λ (n : ℕ). get_or a n 0) place)

pub below_fits : (w : ℕ) (a : List ℕ) → ((j : ℕ) → get_or a j 0 < 2 ^ w) → Fits w a
below_fits w a h x y hx hy = h (x + 5 * y)

pub fits-lanes : (w : ℕ) (f : ℕ → ℕ → ℕ) → ((x y : ℕ) → x < 5 → y < 5 → f x y < 2 ^ w) → Fits w (lanes f)
fits-lanes w f h x y hx hy = subst⁻¹ (λ (n : ℕ). n < 2 ^ w) (lanes_at f x y hx hy) (h x y hx hy)

-- ---- theta, rho, pi, chi

module _ (w : ℕ) (a : List ℕ) (f : Fits w a) where
  column_lt : (x : ℕ) → x < 5 → column a x < 2 ^ w
  column_lt x h =
      let g : (y : ℕ) → y < 5 → lane a x y < 2 ^ w = λ y hy. f x y h hy in
      xor_lt w _ _ (xor_lt w _ _ (xor_lt w _ _ (xor_lt w _ _ (g 0 (omega arith)) (g 1 (omega arith))) (g 2 (omega arith))) (g 3 (omega arith)))
      (g 4 (omega arith))

  column_bits : (x z : ℕ) → bit z (column a x) ≡ theta_c (bits_of a) x z
  column_bits x z = simp bit-bit_xor

  pub theta-fits : Fits w (theta_lanes w a)
  theta-fits =
      fits-lanes w (theta_at w a)
      λ x y hx hy. xor_lt w _ _ (f x y hx hy) (xor_lt w _ _ (column_lt ((x + 4) % 5) (omega arith)) (rotl_lt w _ (1 % w) (column_lt ((x + 1) % 5) (omega arith))))

  pub theta_bits : Same w (bits_of (theta_lanes w a)) (theta w (bits_of a))
  theta_bits x y z hx hy hz =
      let before = column a ((x + 4) % 5) in
      let after = column a ((x + 1) % 5) in
      ap (bit z) (lanes_at (theta_at w a) x y hx hy)
      ∙ bit-bit_xor z (lane a x y) (bit_xor before (rotl w after (1 % w)))
      ∙ ap (bit_xor (bits_of a x y z))
      (bit-bit_xor z before (rotl w after (1 % w))
      ∙ ap₂ bit_xor (column_bits ((x + 4) % 5) z)
      (bit-rotl w after 1 z (column_lt ((x + 1) % 5) (omega arith)) hz ∙ column_bits ((x + 1) % 5) (back w z 1)))

  pub rho-fits : Fits w (rho_lanes w a)
  rho-fits = fits-lanes w (rho_at w a) λ x y hx hy. rotl_lt w _ (get_or offsets (x + 5 * y) 0 % w) (f x y hx hy)

  pub rho_bits : Same w (bits_of (rho_lanes w a)) (rho w (bits_of a))
  rho_bits x y z hx hy hz =
      ap (bit z) (lanes_at (rho_at w a) x y hx hy) ∙ bit-rotl w (lane a x y) (get_or offsets (x + 5 * y) 0) z (f x y hx hy) hz
      ∙ ap (λ (n : ℕ). bit (back w z n) (lane a x y)) (table_2 x y hx hy)

  pub pi-fits : Fits w (pi_lanes a)
  pi-fits = fits-lanes w (pi_at a) λ x y hx hy. f ((x + 3 * y) % 5) x (omega arith) hx

  pub pi_bits : Same w (bits_of (pi_lanes a)) (pi (bits_of a))
  pi_bits x y z hx hy hz = ap (bit z) (lanes_at (pi_at a) x y hx hy)

  pub chi-fits : Fits w (chi_lanes w a)
  chi-fits =
      fits-lanes w (chi_at w a)
      λ x y hx hy. xor_lt w _ _ (f x y hx hy) (and_lt w _ _ (ones_sub-lt w (lane a ((x + 1) % 5) y)) (f ((x + 2) % 5) y (omega arith) hy))

  pub chi_bits : Same w (bits_of (chi_lanes w a)) (chi (bits_of a))
  chi_bits x y z hx hy hz =
      let next = lane a ((x + 1) % 5) y in
      let third = lane a ((x + 2) % 5) y in
      ap (bit z) (lanes_at (chi_at w a) x y hx hy)
      ∙ bit-bit_xor z (lane a x y) (bit_and (complement w next) third)
      ∙ ap (bit_xor (bits_of a x y z))
      (bit-bit_and z (complement w next) third ∙ ap (λ (b : ℕ). bit_and b (bit z third)) (bit_not z w next hz (f ((x + 1) % 5) y (omega arith) hy)))

-- ---- iota

module _ (l ir : ℕ) (a : List ℕ) (f : Fits (2 ^ l) a) (some : 0 < length a) where
  abbrev c : ℕ
  c = round_constant l ir

  other : (x y : ℕ) → x + 5 * y ≢ 0 → lane (iota_lanes c a) x y ≡ lane a x y
  other x y n = get_or-set_other a 0 (x + 5 * y) (bit_xor (get_or a 0 0) c) 0 n

  pub iota-fits : Fits (2 ^ l) (iota_lanes (round_constant l ir) a)
  iota-fits zero zero hx hy = subst⁻¹ (λ (n : ℕ). n < 2 ^ 2 ^ l) (get_or-set_same a 0 _ 0 some) (xor_lt (2 ^ l) _ _ (f 0 0 hx hy) (constant_lt l ir))
  iota-fits zero (suc y) hx hy = subst⁻¹ (λ (n : ℕ). n < 2 ^ 2 ^ l) (other 0 (suc y) (omega arith)) (f 0 (suc y) hx hy)
  iota-fits (suc x) y hx hy = subst⁻¹ (λ (n : ℕ). n < 2 ^ 2 ^ l) (other (suc x) y (omega arith)) (f (suc x) y hx hy)

  pub iota_bits : Same (2 ^ l) (bits_of (iota_lanes (round_constant l ir) a)) (iota l ir (bits_of a))
  iota_bits zero zero z hx hy hz =
      ap (bit z) (get_or-set_same a 0 (bit_xor (get_or a 0 0) c) 0 some) ∙ bit-bit_xor z (get_or a 0 0) c
      ∙ ap (bit_xor (bit z (get_or a 0 0))) (constant_bits l ir z hz)
  iota_bits zero (suc y) z hx hy hz = ap (bit z) (other 0 (suc y) (omega arith))
  iota_bits (suc x) y z hx hy hz = ap (bit z) (other (suc x) y (omega arith))
