-- The acts of an end without its refused calls.
use Rattle.std.specs.Prelude.{cond, List, [], ◌∷◌}
use Rattle.strobe.specs.Answer.{refuses}
use Rattle.strobe.specs.Duplex.{Sponge}
use Rattle.strobe.specs.Runs.{effect}
use Rattle.strobe.specs.Strobe.{Strobe}
use Rattle.replay.specs.History.{Act, ask, reload}

module _ {Edition : Type 0} (sp : Sponge) (reloaded : Edition → Strobe → Strobe) where
  unfoldable pub without_refused : Strobe → List (Act Edition) → List (Act Edition)
  without_refused s [] = []
  without_refused s (ask c ∷ acts) =
      let rest = without_refused (effect sp s c).strobe acts in
      cond (refuses (effect sp s c).answer) rest (ask c ∷ rest)
  without_refused s (reload e ∷ acts) = reload e ∷ without_refused (reloaded e s) acts
