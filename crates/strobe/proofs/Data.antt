-- Laws of the duplex, over any sponge and any rule: closing a full block, data cut in two, rules that keep the lent bytes. Assumes nothing.
use Prim.Native.Nat.{ℕ, ◌≤◌, ◌<◌}
use mathlib.Core.Path.{◌≡◌, refl}
use mathlib.Core.List.{List, [], ◌∷◌, ◌++◌}
use lib.ListN.{length, replicate}
use borrow.Author.Tests.{eq-eqb, ne_eqb}
use Rattle.strobe.specs.Duplex.{Sponge, Duplex, Rule, at_pos, close, close_if_full, step, after, out}
use Rattle.strobe.specs.Flags.{zeroing}

-- the position is below the rate, and the begin position at or before it
pub record Ordered (rate : ℕ) (d : Duplex) : Type 0 where
  pub below : d.pos < rate
  pub begun : d.begin ≤ d.pos

module _ (sp : Sponge) where
  -- ---- a full block

  pub full_closed : (d : Duplex) → d.pos ≡ sp.rate → close_if_full sp d ≡ close sp d
  unfolding close_if_full
  full_closed d h = rw (eq-eqb d.pos sp.rate h)

  pub not_full_kept : (d : Duplex) → (d.pos ≡ sp.rate → ⊥) → close_if_full sp d ≡ d
  unfolding close_if_full
  not_full_kept d h = rw (ne_eqb d.pos sp.rate h)

  -- ---- data in two pieces is data at once

  pub after_append : (r : Rule) (d : Duplex) (xs ys : List ℕ) → after sp r d (xs ++ ys) ≡ after sp r (after sp r d xs) ys
  unfolding after
  after_append r d [] ys = refl
  after_append r d (x ∷ xs) ys = after_append r (step sp r d x) xs ys

  pub out_append : (r : Rule) (d : Duplex) (xs ys : List ℕ) → out sp r d (xs ++ ys) ≡ out sp r d xs ++ out sp r (after sp r d xs) ys
  unfolding after out
  out_append r d [] ys = refl
  out_append r d (x ∷ xs) ys = rw (out_append r (step sp r d x) xs ys)

  -- ---- the lent bytes

  pub out-length : (r : Rule) (d : Duplex) (bs : List ℕ) → length (out sp r d bs) ≡ length bs
  unfolding out
  out-length r d [] = refl
  out-length r d (b ∷ bs) = rw (out-length r (step sp r d b) bs)

  -- a rule that keeps the lent byte keeps them all
  pub out-kept : (r : Rule) (d : Duplex) (bs : List ℕ) → ((s b : ℕ) → r.buffer s b ≡ b) → out sp r d bs ≡ bs
  unfolding out
  out-kept r d [] h = refl
  out-kept r d (b ∷ bs) h = rw (h (at_pos d) b, out-kept r (step sp r d b) bs h)

  -- zeroing looks at no byte
  pub after_zeros : (d : Duplex) (bs : List ℕ) → after sp zeroing d (replicate (length bs) 0) ≡ after sp zeroing d bs
  unfolding after step
  after_zeros d [] = refl
  after_zeros d (b ∷ bs) = after_zeros (step sp zeroing d b) bs
