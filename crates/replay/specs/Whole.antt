-- What STROBE's definition says of operations taken whole: each is opened once, and its joined bytes go through in one piece. Nothing here knows of a limit.
use Rattle.std.specs.Prelude.{true, false, List, [], ◌∷◌, ◌≡◌}
use Rattle.strobe.specs.Duplex.{Sponge}
use Rattle.strobe.specs.Flags.{operation, known}
use Rattle.strobe.specs.Strobe.{Strobe, Effect, opened, worked}
use Rattle.strobe.specs.declared.flags.Flags.{Flags}
use Rattle.replay.specs.History.{Joined}

abbrev pub OneOfTwenty : Flags → Type 0
OneOfTwenty f = known (operation f) ≡ true

module _ (sp : Sponge) where
  abbrev pub whole : Strobe → Joined → Effect
  whole s o = worked sp (opened sp s o.flags false) (operation o.flags) o.bytes

  -- its lent bytes and its answer are the definition's
  pub record Right (s : Strobe) (o : Joined) : Type 0 where
    pub one_of_twenty : OneOfTwenty o.flags
    pub lent : o.lent ≡ (whole s o).lent
    pub answer : o.answer ≡ (whole s o).answer

  -- the same of many, one after another, and the duplex and the direction that they end in
  abbrev pub Course : Strobe → List Joined → Strobe → Type 0
  Course s [] t = (t.duplex ≡ s.duplex) × (t.direction ≡ s.direction)
  Course s (o ∷ os) t = Right s o × Course (whole s o).strobe os t
