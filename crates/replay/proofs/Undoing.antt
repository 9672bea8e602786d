-- The duplex under the two rules of an operation and its mirror: one rule undoes the other, or does not look at the lent bytes, or meets the state's own
-- bytes. Over any sponge. Assumes nothing.
use Prim.Native.Nat.{ℕ}
use mathlib.Core.Path.{◌≡◌, refl, ap, ap₂, ◌∙◌}
use mathlib.Core.List.{List, [], ◌∷◌}
use mathlib.Core.Bool.{true}
use lib.Dec.{eqb}
use lib.ListN.{length}
use borrow.Author.Tests.{eqb-true, eq-eqb}
use native.Mathlib.Omega.{arith}
use Rattle.laws.proofs.Bools.{true_not_false, and_left, and_right}
use Rattle.strobe.specs.Duplex.{Sponge, Duplex, Rule, at_pos, step, after, out, same}
use Rattle.strobe.specs.Flags.{copying, overwriting}

-- ---- the MAC's test

pub same_refl : (xs : List ℕ) → same xs xs ≡ true
same_refl [] = refl
same_refl (x ∷ xs) = rw (eq-eqb x x refl) (same_refl xs)

pub same_equal : (xs ys : List ℕ) → same xs ys ≡ true → xs ≡ ys
same_equal [] [] e = refl
same_equal [] (y ∷ ys) e = absurd (true_not_false e refl)
same_equal (x ∷ xs) [] e = absurd (true_not_false e refl)
same_equal (x ∷ xs) (y ∷ ys) e =
    ap₂ (λ (z : ℕ) (zs : List ℕ). z ∷ zs) (eqb-true x y (and_left (eqb x y) (same xs ys) e))
    (same_equal xs ys (and_right (eqb x y) (same xs ys) e))

module _ (sp : Sponge) where
  -- ---- a rule that does not look at the lent byte: the length alone counts

  module _ (r : Rule) (state : (s b c : ℕ) → r.state s b ≡ r.state s c) where
    step_blind : (d : Duplex) (b c : ℕ) → step sp r d b ≡ step sp r d c
    unfolding step
    step_blind d b c = rw (state (at_pos d) b c)

    pub after_blind : (d : Duplex) (xs ys : List ℕ) → length xs ≡ length ys → after sp r d xs ≡ after sp r d ys
    unfolding after
    after_blind d [] [] e = refl
    after_blind d [] (y ∷ ys) e = absurd (omega arith)
    after_blind d (x ∷ xs) [] e = absurd (omega arith)
    after_blind d (x ∷ xs) (y ∷ ys) e =
        ap (λ (z : Duplex). after sp r z xs) (step_blind d x y) ∙ after_blind (step sp r d y) xs ys (omega arith)

    pub out_blind : ((s b c : ℕ) → r.buffer s b ≡ r.buffer s c) → (d : Duplex) (xs ys : List ℕ) → length xs ≡ length ys
        → out sp r d xs ≡ out sp r d ys
    unfolding out
    out_blind buffer d [] [] e = refl
    out_blind buffer d [] (y ∷ ys) e = absurd (omega arith)
    out_blind buffer d (x ∷ xs) [] e = absurd (omega arith)
    out_blind buffer d (x ∷ xs) (y ∷ ys) e =
        rw (step_blind d x y)
        (ap₂ (λ (z : ℕ) (zs : List ℕ). z ∷ zs) (buffer (at_pos d) x y) (out_blind buffer (step sp r d y) xs ys (omega arith)))

  -- ---- the second rule, fed with what the first gave back, leaves what the first left

  module _ (r r' : Rule) (state : (s b : ℕ) → r'.state s (r.buffer s b) ≡ r.state s b) where
    step_through : (d : Duplex) (b : ℕ) → step sp r' d (r.buffer (at_pos d) b) ≡ step sp r d b
    unfolding step
    step_through d b = rw (state (at_pos d) b)

    pub after_through : (d : Duplex) (bs : List ℕ) → after sp r' d (out sp r d bs) ≡ after sp r d bs
    unfolding after out
    after_through d [] = refl
    after_through d (b ∷ bs) =
        ap (λ (z : Duplex). after sp r' z (out sp r (step sp r d b) bs)) (step_through d b) ∙ after_through (step sp r d b) bs

    -- and gives back g of what the first was lent
    pub out_through : (g : ℕ → ℕ → ℕ) → ((s b : ℕ) → r'.buffer s (r.buffer s b) ≡ g s b) → (d : Duplex) (bs : List ℕ)
        → out sp r' d (out sp r d bs) ≡ out sp (record { state = r.state; buffer = g }) d bs
    unfolding out step
    out_through g buffer d [] = refl
    out_through g buffer d (b ∷ bs) =
        rw (step_through d b) (ap₂ (λ (z : ℕ) (zs : List ℕ). z ∷ zs) (buffer (at_pos d) b) (out_through g buffer (step sp r d b) bs))

  -- ---- bytes that are the state's own: to copy them out leaves what overwriting by them leaves

  abbrev meeting : Rule
  meeting = record { state = overwriting.state; buffer = λ s b. s }

  step-met : (d : Duplex) (b : ℕ) → at_pos d ≡ b → step sp copying d b ≡ step sp overwriting d b
  unfolding step
  step-met d b e = rw e

  module _ (d : Duplex) (b : ℕ) (bs : List ℕ) (e : out sp meeting d (b ∷ bs) ≡ b ∷ bs) where
    first_met : at_pos d ≡ b
    unfolding out
    first_met = cc

    rest_met : out sp meeting (step sp overwriting d b) bs ≡ bs
    unfolding out step
    rest_met = cc

  pub after-met : (d : Duplex) (bs : List ℕ) → out sp meeting d bs ≡ bs → after sp copying d bs ≡ after sp overwriting d bs
  unfolding after
  after-met d [] e = refl
  after-met d (b ∷ bs) e =
      ap (λ (z : Duplex). after sp copying z bs) (step-met d b (first_met d b bs e))
      ∙ after-met (step sp overwriting d b) bs (rest_met d b bs e)

  pub out-met : (d : Duplex) (bs : List ℕ) → out sp meeting d bs ≡ bs → out sp copying d bs ≡ bs
  unfolding out
  out-met d [] e = refl
  out-met d (b ∷ bs) e =
      ap₂ (λ (z : ℕ) (zs : List ℕ). z ∷ zs) (first_met d b bs e)
      (ap (λ (z : Duplex). out sp copying z bs) (step-met d b (first_met d b bs e)) ∙ out-met (step sp overwriting d b) bs (rest_met d b bs e))
