-- Calls made one after another on one session.
use Rattle.std.specs.Prelude.{Bool, false, not, cond, ◌||◌, List, [], ◌∷◌, ℕ}
use Rattle.strobe.specs.Answer.{refuses}
use Rattle.strobe.specs.Duplex.{Sponge}
use Rattle.strobe.specs.Strobe.{Strobe, Effect, call}
use Rattle.strobe.specs.declared.flags.Flags.{Flags}

-- what a caller hands over
pub record Call : Type 0 where
  pub flags : Flags
  pub more : Bool
  pub bytes : List ℕ

module _ (sp : Sponge) where
  abbrev pub effect : Strobe → Call → Effect
  effect s c = call sp s c.flags c.more c.bytes

  -- answer 0 or 9
  abbrev pub accepts : Strobe → Call → Bool
  accepts s c = not (refuses (effect s c).answer)

  -- the session after the calls
  unfoldable pub ran : Strobe → List Call → Strobe
  ran s [] = s
  ran s (c ∷ cs) = ran (effect s c).strobe cs

  -- the calls without those that were refused
  unfoldable pub struck : Strobe → List Call → List Call
  struck s [] = []
  struck s (c ∷ cs) =
      let rest = struck (effect s c).strobe cs in
      cond (accepts s c) (c ∷ rest) rest

-- one of the calls has `more` off: if it was accepted, it opened its operation
unfoldable pub opens : List Call → Bool
opens [] = false
opens (c ∷ cs) = not c.more || opens cs
