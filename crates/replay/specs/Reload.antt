-- What replay asks of a save and a load.
use Rattle.std.specs.Prelude.{true, ◌≡◌}
use Rattle.strobe.specs.Duplex.{Sponge}
use Rattle.strobe.specs.Strobe.{Strobe, is_last}
use Rattle.strobe.specs.declared.flags.Flags.{Flags}
use Rattle.replay.specs.Usable.{Usable}

-- state, positions and direction are kept, and no last operation is invented
pub record Kept (s t : Strobe) : Type 0 where
  pub duplex : t.duplex ≡ s.duplex
  pub direction : t.direction ≡ s.direction
  pub last : (f : Flags) → is_last t.last f ≡ true → is_last s.last f ≡ true

-- of every usable session
abbrev pub Keeps : Sponge → (Strobe → Strobe) → Type 0
Keeps sp reloaded = (s : Strobe) → Usable sp s → Kept s (reloaded s)

-- every usable session is kept whole
abbrev pub KeepsAll : Sponge → (Strobe → Strobe) → Type 0
KeepsAll sp reloaded = (s : Strobe) → Usable sp s → reloaded s ≡ s
