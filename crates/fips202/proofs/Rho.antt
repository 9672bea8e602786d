-- rho is Algorithm 2's: its walk of 24 turns from (1, 0) meets each lane but (0, 0), and turns it by the offset of its turn; and the
-- offsets are those of FIPS 202's Table 2. Each table by one computed test. Assumes nothing.
use mathlib.Core.Path.{◌≡◌, refl, ap, ap₂, ◌∙◌}
use mathlib.Core.Bool.{Bool}
use mathlib.Core.List.{List, [], ◌∷◌}
use Prim.Native.Nat.{ℕ, zero, suc, ◌+◌, ◌*◌, ◌/◌, ◌%◌, ◌<◌}
use native.Mathlib.Nat.{not-suc-le-zero}
use native.Mathlib.Omega.{arith}
use lib.Dec.{T, eqb, ltb, eqb→eq, ltb→lt}
use lib.ListN.{get_or}
use Rattle.fips202.specs.Keccak.{Array, count_from, back, walk, offset, rho}
use Rattle.fips202.specs.Lanes.{offsets}
use Rattle.fips202.proofs.Bit.{back_zero}
use Rattle.fips202.proofs.Table.{both, both_left, both_right, at}

-- step 1: lane (0, 0) stays
pub rho_origin : (w : ℕ) (A : Array) (z : ℕ) → z < w → rho w A 0 0 z ≡ A 0 0 z
unfolding offset
rho_origin w A z h = ap (A 0 0) (back_zero w z h)

-- step 3a: in turn t, lane (x, y) is turned by (t + 1)(t + 2)/2
turned : ℕ → ℕ → Bool
turned t u = eqb (offset (walk t).0 (walk t).1) ((t + 1) * (t + 2) / 2)

pub rho-walk : (w : ℕ) (A : Array) (t z : ℕ) → t < 24
    → rho w A (walk t).0 (walk t).1 z ≡ A (walk t).0 (walk t).1 (back w z ((t + 1) * (t + 2) / 2))
unfolding turned offset
rho-walk w A t z h =
    ap (λ (n : ℕ). A (walk t).0 (walk t).1 (back w z n))
    (eqb→eq (offset (walk t).0 (walk t).1) ((t + 1) * (t + 2) / 2) (at turned (count_from 0 24) tt t h))

-- every lane but (0, 0) is met: the turn that meets lane x + 5 y
turns : List ℕ
turns = 24 ∷ 0 ∷ 18 ∷ 6 ∷ 12 ∷ 7 ∷ 23 ∷ 2 ∷ 9 ∷ 22 ∷ 1 ∷ 3 ∷ 17 ∷ 16 ∷ 20 ∷ 13 ∷ 8 ∷ 4 ∷ 5 ∷ 15 ∷ 19 ∷ 10 ∷ 21 ∷ 14 ∷ 11 ∷ []

met : ℕ → ℕ → Bool
met zero t = Bool.true
met (suc i) t = both (ltb t 24) (both (eqb (walk t).0 (suc i % 5)) (eqb (walk t).1 (suc i / 5)))

pub walk_meets : (x y : ℕ) → x < 5 → y < 5 → 0 < x + 5 * y → (t : ℕ) × (t < 24) × ((walk t).0 ≡ x) × ((walk t).1 ≡ y)
unfolding turns met
walk_meets x y hx hy h = go (x + 5 * y) h refl (at met turns tt (x + 5 * y) (omega arith))
  where
    go : (i : ℕ) → 0 < i → x + 5 * y ≡ i → T (met i (get_or turns i 0)) → (t : ℕ) × (t < 24) × ((walk t).0 ≡ x) × ((walk t).1 ≡ y)
    go zero k e p = absurd (not-suc-le-zero k)
    go (suc i) k e p =
        let t = get_or turns (suc i) 0 in
        let q = both_right (ltb t 24) (both (eqb (walk t).0 (suc i % 5)) (eqb (walk t).1 (suc i / 5))) p in (
          t,
          ltb→lt t 24 (both_left (ltb t 24) (both (eqb (walk t).0 (suc i % 5)) (eqb (walk t).1 (suc i / 5))) p),
          eqb→eq (walk t).0 (suc i % 5) (both_left (eqb (walk t).0 (suc i % 5)) (eqb (walk t).1 (suc i / 5)) q) ∙ omega arith,
          eqb→eq (walk t).1 (suc i / 5) (both_right (eqb (walk t).0 (suc i % 5)) (eqb (walk t).1 (suc i / 5)) q) ∙ omega arith,
        )

-- Table 2
is_offset : ℕ → ℕ → Bool
is_offset i n = eqb n (offset (i % 5) (i / 5))

pub table_2 : (x y : ℕ) → x < 5 → y < 5 → get_or offsets (x + 5 * y) 0 ≡ offset x y
unfolding is_offset offset
table_2 x y hx hy =
    let i = x + 5 * y in
    let ix : i % 5 ≡ x = omega arith in
    let iy : i / 5 ≡ y = omega arith in
    eqb→eq (get_or offsets i 0) (offset (i % 5) (i / 5)) (at is_offset offsets tt i (omega arith)) ∙ ap₂ offset ix iy
