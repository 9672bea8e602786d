-- The number of given bits has just these bits, and a number is that of its own bits. Over the count w of bits. Assumes nothing.
use mathlib.Core.Path.{◌≡◌, refl, ap, ap₂, ◌∙◌}
use Prim.Native.Nat.{ℕ, zero, suc, ◌+◌, ◌*◌, ◌/◌, ◌^◌, ◌<◌}
use native.Mathlib.Nat.{mod-lt, not-suc-le-zero, le_of_suc-le-suc, pow-suc}
use native.Mathlib.Omega.{arith}
use Rattle.fips202.specs.Bytes.{bit, number}
use Rattle.fips202.proofs.Bit.{bit_suc, ext_bit}

pub bit_lt : (z x : ℕ) → bit z x < 2
bit_lt z x = mod-lt (x / 2 ^ z) (omega arith)

pub bit-number : (w : ℕ) (f : ℕ → ℕ) → ((z : ℕ) → f z < 2) → (z : ℕ) → z < w → bit z (number w f) ≡ f z
bit-number zero f h z l = absurd (not-suc-le-zero l)
bit-number (suc w) f h zero l = omega (arith, h 0)
bit-number (suc w) f h (suc z) l =
    let rest = number w (λ z. f (suc z)) in
    let half : (f 0 + 2 * rest) / 2 ≡ rest = omega (arith, h 0) in
    bit_suc z (f 0 + 2 * rest) ∙ ap (bit z) half ∙ bit-number w (λ z. f (suc z)) (λ z. h (suc z)) z (le_of_suc-le-suc l)

pub number_lt : (w : ℕ) (f : ℕ → ℕ) → ((z : ℕ) → f z < 2) → number w f < 2 ^ w
number_lt zero f h = omega arith
number_lt (suc w) f h = omega (arith, h 0, number_lt w (λ z. f (suc z)) (λ z. h (suc z)), pow-suc 2 w)

pub number_same : (w : ℕ) (f g : ℕ → ℕ) → ((z : ℕ) → z < w → f z ≡ g z) → number w f ≡ number w g
number_same zero f g h = refl
number_same (suc w) f g h =
    ap₂ (λ (b n : ℕ). b + 2 * n) (h 0 (omega arith)) (number_same w (λ z. f (suc z)) (λ z. g (suc z)) (λ z l. h (suc z) (omega arith)))

pub number_bits : (w x : ℕ) → x < 2 ^ w → number w (λ z. bit z x) ≡ x
number_bits w x h =
    ext_bit w (number w (λ z. bit z x)) x (number_lt w (λ z. bit z x) (λ z. bit_lt z x)) h
    (bit-number w (λ z. bit z x) (λ z. bit_lt z x))
