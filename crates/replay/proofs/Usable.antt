-- Every call leaves a usable session usable: well formed, and its state of the sponge's size. So is a fresh session. Assumes nothing.
use Prim.Native.Nat.{ℕ, zero, suc, ◌+◌, ◌-◌}
use mathlib.Core.Path.{◌≡◌, refl, ap, ◌∙◌, subst}
use mathlib.Core.List.{List, [], ◌∷◌}
use mathlib.Core.Bool.{Bool, true, false, not, cond, ◌&&◌}
use lib.Dec.{eqb}
use lib.ListN.{length, length-set, length-replicate}
use borrow.Author.Tests.{lt-ltb, eqb-true, eq-eqb}
use native.Mathlib.Omega.{arith}
use Rattle.laws.proofs.Bools.{true_not_false}
use Rattle.strobe.proofs.Calls.{well_ordered, well_known, ordered_well}
use Rattle.strobe.proofs.Runs.{call_well}
use Rattle.strobe.specs.Duplex.{Sponge, Duplex, Rule, mix, placed, padded, close, close_if_full, step, after}
use Rattle.strobe.specs.Flags.{flags, known, C, META_AD, has, operation, absorbing, rule_of}
use Rattle.strobe.specs.Runs.{Call, effect}
use Rattle.strobe.specs.Strobe.{Strobe, is_last, known_last, mixed, directed, forced, begin_op, opened, well_formed, refusal, worked, settled, call, seed, unnamed, fresh}
use Rattle.strobe.specs.declared.flags.Flags.{Flags}
use Rattle.strobe.specs.declared.last.Last.TheVariants.{Nothing, Op}
use Rattle.strobe.specs.declared.last.Last.{Last}
use Rattle.replay.specs.Reload.{Kept}
use Rattle.replay.specs.Usable.{Sound, Usable}

-- a last operation that is not invented is one of the twenty
last_known : (l m : Last) → ((f : Flags) → is_last m f ≡ true → is_last l f ≡ true) → known_last l ≡ true → known_last m ≡ true
last_known l Nothing h k = refl
last_known l (Op f) h k = go l (h f (eq-eqb f.0 f.0 refl)) k
  where
    go : (l : Last) → is_last l f ≡ true → known_last l ≡ true → known (operation f) ≡ true
    go Nothing e k = absurd (true_not_false e refl)
    go (Op g) e k = subst (λ (n : ℕ). known (operation (flags n)) ≡ true) (eqb-true g.0 f.0 e) k

-- what a reload keeps stays usable
pub reload_usable : (sp : Sponge) (s t : Strobe) → Usable sp s → Kept s t → Usable sp t
reload_usable sp s t u k =
    record {
      well = ordered_well sp.rate t (rw k.duplex (well_ordered sp.rate s u.well))
          (last_known s.last t.last k.last (well_known sp.rate s u.well));
      sized = ap (λ (d : Duplex). length d.st) k.duplex ∙ u.sized;
    }

module _ (sp : Sponge) (sound : Sound sp) where
  -- ---- the size of the state

  abbrev Sized : Duplex → Type 0
  Sized d = length d.st ≡ sp.size

  mix-length : (st : List ℕ) (i x : ℕ) → length (mix st i x) ≡ length st
  unfolding mix
  mix-length st i x = length-set st i _

  close_sized : (t : Bool) (d : Duplex) → Sized d → Sized (cond t (close sp d) d)
  unfolding padded
  close_sized true d h = sound.keeps (padded sp d) (mix-length _ _ _ ∙ mix-length _ _ _ ∙ mix-length d.st _ _ ∙ h)
  close_sized false d h = h

  after_sized : (r : Rule) (d : Duplex) (bs : List ℕ) → Sized d → Sized (after sp r d bs)
  unfolding after step close_if_full
  after_sized r d [] h = h
  after_sized r d (b ∷ bs) h =
      after_sized r (step sp r d b) bs (close_sized (eqb (d.pos + 1) sp.rate) (placed r d b) (length-set d.st d.pos _ ∙ h))

  opened_sized : (s : Strobe) (f : Flags) (more : Bool) → Sized s.duplex → Sized (opened sp s f more).duplex
  unfolding opened begin_op forced
  opened_sized s f true h = h
  opened_sized s f false h =
      let d : Duplex = record { st = s.duplex.st; pos = s.duplex.pos; begin = s.duplex.pos + 1 } in
      let two : Duplex = after sp absorbing d (s.duplex.begin ∷ mixed (directed s.direction f) f ∷ []) in
      close_sized (has f C && not (eqb two.pos 0)) two (after_sized absorbing d _ h)

  call_sized : (s : Strobe) (f : Flags) (more : Bool) (bs : List ℕ) → Sized s.duplex → Sized (call sp s f more bs).strobe.duplex
  unfolding call settled worked
  call_sized s f more bs h = go (refusal sp.rate s f more (length bs))
    where
      go : (n : ℕ) → Sized (settled sp n s f more bs).strobe.duplex
      go zero = after_sized (rule_of (operation f)) (opened sp s f more).duplex bs (opened_sized s f more h)
      go (suc n) = h

  -- ---- usable sessions

  pub call_usable : (s : Strobe) (c : Call) → Usable sp s → Usable sp (effect sp s c).strobe
  call_usable s c u =
      record {
        well = call_well sp s c.flags c.more c.bytes u.well;
        sized = call_sized s c.flags c.more c.bytes u.sized;
      }

  pub unnamed_usable : Usable sp (unnamed sp)
  unfolding unnamed seed well_formed
  unnamed_usable =
      record {
        well = rw (lt-ltb 0 sp.rate sound.rated);
        sized = sound.keeps _ (omega (arith, length-replicate {A = ℕ} (sp.size - 18) 0, sound.roomy));
      }

  pub fresh_usable : (name : List ℕ) → Usable sp (fresh sp name)
  unfolding fresh
  fresh_usable name = call_usable (unnamed sp) (record { flags = META_AD; more = false; bytes = name }) unnamed_usable
