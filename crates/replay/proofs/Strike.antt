-- Refused calls change nothing: an end that never made them has the same calls with the same outcomes, and the same session. Assumes nothing.
use mathlib.Core.Path.{◌≡◌, refl, sym, ap, ◌∙◌}
use mathlib.Core.List.{List, [], ◌∷◌}
use mathlib.Core.Bool.{Bool, true, false, cond}
use Rattle.strobe.proofs.Refused.{refused_unchanged}
use Rattle.strobe.specs.Answer.{refuses}
use Rattle.strobe.specs.Duplex.{Sponge}
use Rattle.strobe.specs.Runs.{effect}
use Rattle.strobe.specs.Strobe.{Strobe}
use Rattle.replay.specs.History.{Act, ask, reload, Entry, entry, ends, log, struck}
use Rattle.replay.specs.Strike.{without_refused}

module _ {Edition : Type 0} (sp : Sponge) (reloaded : Edition → Strobe → Strobe) where
  abbrev Unchanged : Strobe → List (Act Edition) → List (Act Edition) → Type 0
  Unchanged s acts kept = (log sp reloaded s kept ≡ struck (log sp reloaded s acts)) × (ends sp reloaded s kept ≡ ends sp reloaded s acts)

  pub refused_change_nothing : (acts : List (Act Edition)) (s : Strobe) → Unchanged s acts (without_refused sp reloaded s acts)
  unfolding ends log struck without_refused
  refused_change_nothing [] s = (refl, refl)
  refused_change_nothing (reload e ∷ acts) s = refused_change_nothing acts (reloaded e s)
  refused_change_nothing (ask c ∷ acts) s = go (refuses (effect sp s c).answer) refl (refused_change_nothing acts (effect sp s c).strobe)
    where
      rest : List (Act Edition)
      rest = without_refused sp reloaded (effect sp s c).strobe acts

      go : (t : Bool) → refuses (effect sp s c).answer ≡ t → Unchanged (effect sp s c).strobe acts rest
          → (log sp reloaded s (cond t rest (ask c ∷ rest))
          ≡ cond t (struck (log sp reloaded (effect sp s c).strobe acts)) (entry c (effect sp s c) ∷ struck (log sp reloaded (effect sp s c).strobe acts)))
          × (ends sp reloaded s (cond t rest (ask c ∷ rest)) ≡ ends sp reloaded (effect sp s c).strobe acts)
      go true e h =
          let same : s ≡ (effect sp s c).strobe = sym (refused_unchanged sp s c.flags c.more c.bytes e).0 in
          (ap (λ (x : Strobe). log sp reloaded x rest) same ∙ h.0, ap (λ (x : Strobe). ends sp reloaded x rest) same ∙ h.1)
      go false e h = (ap (λ (xs : List Entry). entry c (effect sp s c) ∷ xs) h.0, h.1)
