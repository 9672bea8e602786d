-- The acts of an end without those reloads that keep all.
use Rattle.std.specs.Prelude.{Bool, cond, List, [], ◌∷◌}
use Rattle.replay.specs.History.{Act, ask, reload}

module _ {Edition : Type 0} (keeps_all : Edition → Bool) where
  unfoldable pub without_reloads : List (Act Edition) → List (Act Edition)
  without_reloads [] = []
  without_reloads (ask c ∷ acts) = ask c ∷ without_reloads acts
  without_reloads (reload e ∷ acts) = cond (keeps_all e) (without_reloads acts) (reload e ∷ without_reloads acts)
