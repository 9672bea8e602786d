-- `check_mac`, byte by byte: what is done and what is left is the whole, and so is what was met. Assumes nothing.
use mathlib.Core.Path.{◌≡◌}
use mathlib.Core.Bool.{◌&&◌}
use lib.ListN.{drop}
use Rattle.strobe.specs.Duplex.{met}
use Rattle.strobe.specs.Duplex as Def
use Rattle.strobe.specs.Flags.{overwriting}
use Rattle.strobe.specs.Loops.{duplex_of}
use Rattle.strobe.specs.Session.{sponge}
use Rattle.strobe.proofs.Loops.{Left}
use Rattle.strobe.proofs.duplex.State.check_mac.Given as goal

abbrev pub invariant-loop-byte : goal.invariant-loop-byte
invariant-loop-byte l = record {
  left : Left overwriting l.fn.self l.fn.mac l.self (drop l.byte-index l.mac);
  same : l.same && Def.same (met (sponge l.self.rate) overwriting (duplex_of l.self) (drop l.byte-index l.mac)) (drop l.byte-index l.mac) ≡ Def.same (met (sponge l.fn.self.rate) overwriting (duplex_of l.fn.self) l.fn.mac) l.fn.mac;
}
