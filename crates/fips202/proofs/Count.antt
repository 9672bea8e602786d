-- A list made by counting, g 0, g 1, .., g (n - 1): its length, its elements, and what holds of each of them. Assumes nothing.
use mathlib.Core.Path.{◌≡◌, refl, sym, ap, ◌∙◌, subst, subst⁻¹}
use mathlib.Core.List.{map}
use Prim.Native.Nat.{ℕ, zero, suc, ◌+◌, ◌<◌}
use native.Mathlib.Nat.{add-zero, zero-add, add-suc, suc-add, not-suc-le-zero, le_of_suc-le-suc}
use native.Mathlib.Omega.{arith}
use native.Mathlib.Decide.{dec_lt}
use lib.ListN.{length, get_or, length-map, get_or-eq_default}
use lib.Seq.{ext_get_or}
use Rattle.fips202.specs.Keccak.{count_from}

length_count : (i n : ℕ) → length (count_from i n) ≡ n
length_count i zero = refl
length_count i (suc n) = ap suc (length_count (suc i) n)

get_or-count_from : (g : ℕ → ℕ) (n i k : ℕ) → k < n → get_or (map g (count_from i n)) k 0 ≡ g (i + k)
get_or-count_from g zero i k h = absurd (not-suc-le-zero h)
get_or-count_from g (suc n) i zero h = ap g (sym (add-zero i))
get_or-count_from g (suc n) i (suc k) h = get_or-count_from g n (suc i) k (le_of_suc-le-suc h) ∙ ap g (suc-add i k ∙ sym (add-suc i k))

module _ (g : ℕ → ℕ) (n : ℕ) where
  pub length_upto : length (map g (count_from 0 n)) ≡ n
  length_upto = length-map (count_from 0 n) g ∙ length_count 0 n

  pub get_or-upto : (k : ℕ) → k < n → get_or (map g (count_from 0 n)) k 0 ≡ g k
  get_or-upto k h = get_or-count_from g n 0 k h ∙ ap g (zero-add k)

  pub each_upto : (P : ℕ → Type 0) → P 0 → ((k : ℕ) → k < n → P (g k)) → (j : ℕ) → P (get_or (map g (count_from 0 n)) j 0)
  each_upto P p h j = pick (dec_lt j n)
    where
      pick : Dec (j < n) → P (get_or (map g (count_from 0 n)) j 0)
      pick (yes l) = subst⁻¹ P (get_or-upto j l) (h j l)
      pick (no f) = subst⁻¹ P (get_or-eq_default (map g (count_from 0 n)) 0 {n = j} (omega (arith, length_upto))) p

pub same_upto : (f g : ℕ → ℕ) (n : ℕ) → ((k : ℕ) → k < n → f k ≡ g k) → map f (count_from 0 n) ≡ map g (count_from 0 n)
same_upto f g n h =
    ext_get_or 0 (map f (count_from 0 n)) (map g (count_from 0 n)) (length_upto f n ∙ sym (length_upto g n)) at
  where
    at : (k : ℕ) → k < length (map f (count_from 0 n)) → get_or (map f (count_from 0 n)) k 0 ≡ get_or (map g (count_from 0 n)) k 0
    at k l = let i : k < n = subst (λ (m : ℕ). k < m) (length_upto f n) l in get_or-upto f n k i ∙ h k i ∙ sym (get_or-upto g n k i)
