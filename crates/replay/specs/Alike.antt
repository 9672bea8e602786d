-- Two runs of one end that differ only in where they cut.
use Rattle.std.specs.Prelude.{List, ◌≡◌}
use Rattle.strobe.specs.Strobe.{Strobe}
use Rattle.replay.specs.History.{Joined}

-- operations of the same flags and joined bytes
pub record Alike (o p : Joined) : Type 0 where
  pub flags : p.flags ≡ o.flags
  pub bytes : p.bytes ≡ o.bytes

-- the operations os led to s, the operations ps to t
pub record Same (os ps : List Joined) (s t : Strobe) : Type 0 where
  pub operations : ps ≡ os
  pub duplex : t.duplex ≡ s.duplex
  pub direction : t.direction ≡ s.direction
