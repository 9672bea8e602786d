-- theta, rho and pi take the xor of two state arrays to the xor of what they make of each. Assumes nothing.
use mathlib.Core.Path.{◌≡◌, refl, sym, ap, ap₂, ◌∙◌}
use Prim.Native.Nat.{ℕ, zero, suc, ◌+◌, ◌*◌, ◌/◌, ◌%◌}
use native.Mathlib.Omega.{arith}
use lib.Arith.{bin_ind}
use lib.Bits.{bit_xor, xor_zero_l, xor_comm, xor_shr, xor_add_and}
use Rattle.fips202.specs.Keccak.{Array, back, theta_c, theta, offset}
use Rattle.fips202.proofs.Rounds.{array_before_chi}

-- ---- xor of numbers, in any order

xor_half : (a b : ℕ) → bit_xor a b / 2 ≡ bit_xor (a / 2) (b / 2)
xor_half a b = xor_shr a b 1

xor_assoc : (a b c : ℕ) → bit_xor (bit_xor a b) c ≡ bit_xor a (bit_xor b c)
xor_assoc =
    bin_ind (λ (a : ℕ). (b c : ℕ) → bit_xor (bit_xor a b) c ≡ bit_xor a (bit_xor b c))
    (λ b c. ap (λ (n : ℕ). bit_xor n c) (xor_zero_l b) ∙ sym (xor_zero_l (bit_xor b c))) step
  where
    step : (a : ℕ) → ((b c : ℕ) → bit_xor (bit_xor (a / 2) b) c ≡ bit_xor (a / 2) (bit_xor b c)) → (b c : ℕ)
        → bit_xor (bit_xor a b) c ≡ bit_xor a (bit_xor b c)
    step a halves b c =
        let same : bit_xor (bit_xor a b) c / 2 ≡ bit_xor a (bit_xor b c) / 2 =
        xor_half (bit_xor a b) c ∙ ap (λ (n : ℕ). bit_xor n (c / 2)) (xor_half a b) ∙ halves (b / 2) (c / 2)
        ∙ sym (xor_half a (bit_xor b c) ∙ ap (bit_xor (a / 2)) (xor_half b c)) in
        omega (arith, same, xor_add_and (bit_xor a b) c, xor_add_and a b, xor_add_and a (bit_xor b c), xor_add_and b c)

xor_swap : (a b c d : ℕ) → bit_xor (bit_xor a b) (bit_xor c d) ≡ bit_xor (bit_xor a c) (bit_xor b d)
xor_swap a b c d =
    xor_assoc a b (bit_xor c d)
    ∙ ap (bit_xor a) (sym (xor_assoc b c d) ∙ ap (λ (n : ℕ). bit_xor n d) (xor_comm b c) ∙ xor_assoc c b d)
    ∙ sym (xor_assoc a c (bit_xor b d))

-- ---- arrays

infixl 20 ◌⊕◌
abbrev pub ◌⊕◌ : Array → Array → Array
◌⊕◌ A B x y z = bit_xor (A x y z) (B x y z)

-- a column up to y
abbrev part : Array → ℕ → ℕ → ℕ → ℕ
part A x z zero = A x 0 z
part A x z (suc y) = bit_xor (part A x z y) (A x (suc y) z)

module _ (w : ℕ) (A B : Array) where
  column_xor : (x z : ℕ) → theta_c (A ⊕ B) x z ≡ bit_xor (theta_c A x z) (theta_c B x z)
  column_xor x z = to 4
    where
      to : (y : ℕ) → part (A ⊕ B) x z y ≡ bit_xor (part A x z y) (part B x z y)
      to zero = refl
      to (suc y) = ap (λ (n : ℕ). bit_xor n ((A ⊕ B) x (suc y) z)) (to y) ∙ xor_swap (part A x z y) (part B x z y) (A x (suc y) z) (B x (suc y) z)

  theta_xor : (x y z : ℕ) → theta w (A ⊕ B) x y z ≡ bit_xor (theta w A x y z) (theta w B x y z)
  theta_xor x y z =
      let before = (x + 4) % 5 in
      let after = (x + 1) % 5 in
      let turned = back w z 1 in
      ap (bit_xor ((A ⊕ B) x y z))
      (ap₂ bit_xor (column_xor before z) (column_xor after turned)
      ∙ xor_swap (theta_c A before z) (theta_c B before z) (theta_c A after turned) (theta_c B after turned))
      ∙ xor_swap (A x y z) (B x y z) (bit_xor (theta_c A before z) (theta_c A after turned)) (bit_xor (theta_c B before z) (theta_c B after turned))

  -- rho and pi only move bits
  pub before_chi_xor : (x y z : ℕ) → array_before_chi w (A ⊕ B) x y z ≡ bit_xor (array_before_chi w A x y z) (array_before_chi w B x y z)
  before_chi_xor x y z = theta_xor ((x + 3 * y) % 5) x (back w z (offset ((x + 3 * y) % 5) x))
