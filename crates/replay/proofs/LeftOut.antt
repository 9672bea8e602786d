-- Reloads that keep all change nothing: an end without them has the same calls with the same outcomes, and the same session. Assumes nothing.
use mathlib.Core.Path.{◌≡◌, refl, sym, ap, ◌∙◌}
use mathlib.Core.List.{List, [], ◌∷◌}
use mathlib.Core.Bool.{Bool, true, false, cond}
use Rattle.strobe.specs.Duplex.{Sponge}
use Rattle.strobe.specs.Runs.{effect}
use Rattle.strobe.specs.Strobe.{Strobe}
use Rattle.replay.specs.History.{Act, ask, reload, Entry, entry, ends, log}
use Rattle.replay.specs.LeftOut.{without_reloads}
use Rattle.replay.specs.Reload.{Keeps, KeepsAll}
use Rattle.replay.specs.Usable.{Sound, Usable}
use Rattle.replay.proofs.Usable.{call_usable, reload_usable}

module _ {Edition : Type 0} (sp : Sponge) (sound : Sound sp) (reloaded : Edition → Strobe → Strobe) (keeps : (e : Edition) → Keeps sp (reloaded e))
    (keeps_all : Edition → Bool) (all : (e : Edition) → keeps_all e ≡ true → KeepsAll sp (reloaded e)) where
  abbrev Unchanged : Strobe → List (Act Edition) → List (Act Edition) → Type 0
  Unchanged s acts kept = (log sp reloaded s kept ≡ log sp reloaded s acts) × (ends sp reloaded s kept ≡ ends sp reloaded s acts)

  left_out : (acts : List (Act Edition)) (s : Strobe) → Usable sp s → Unchanged s acts (without_reloads keeps_all acts)
  unfolding log ends without_reloads
  left_out [] s u = (refl, refl)
  left_out (ask c ∷ acts) s u =
      let rest = left_out acts (effect sp s c).strobe (call_usable sp sound s c u) in
      (ap (λ (es : List Entry). entry c (effect sp s c) ∷ es) rest.0, rest.1)
  left_out (reload e ∷ acts) s u = go (keeps_all e) refl (left_out acts (reloaded e s) (reload_usable sp s (reloaded e s) u (keeps e s u)))
    where
      rest : List (Act Edition)
      rest = without_reloads keeps_all acts

      go : (t : Bool) → keeps_all e ≡ t → Unchanged (reloaded e s) acts rest
          → (log sp reloaded s (cond t rest (reload e ∷ rest)) ≡ log sp reloaded (reloaded e s) acts)
          × (ends sp reloaded s (cond t rest (reload e ∷ rest)) ≡ ends sp reloaded (reloaded e s) acts)
      go true h same =
          let whole : s ≡ reloaded e s = sym (all e h s u) in
          (ap (λ (x : Strobe). log sp reloaded x rest) whole ∙ same.0, ap (λ (x : Strobe). ends sp reloaded x rest) whole ∙ same.1)
      go false h same = same

  -- two ends that differ only in such reloads
  pub reload_anywhere : (a b : List (Act Edition)) (s : Strobe) → Usable sp s → without_reloads keeps_all a ≡ without_reloads keeps_all b
      → (log sp reloaded s a ≡ log sp reloaded s b) × (ends sp reloaded s a ≡ ends sp reloaded s b)
  reload_anywhere a b s u h =
      let one = left_out a s u in
      let other = left_out b s u in
      (sym one.0 ∙ ap (log sp reloaded s) h ∙ other.0, sym one.1 ∙ ap (ends sp reloaded s) h ∙ other.1)
