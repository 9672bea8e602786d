-- `call_in_pieces`, piece by piece. The invariant `Cut`: what is done and what is left is the whole. Assumes nothing.
use Prim.Native.Nat.{◌-◌}
use mathlib.Core.Path.{◌≡◌}
use lib.ListN.{length}
use Rattle.strobe.specs.Pieces.{piece_size}
use Rattle.strobe.specs.Session.{sponge_of, seen}
use Rattle.strobe.proofs.Cutting.{Cut}
use Rattle.strobe.proofs.session.Session.call_in_pieces.Given as goal

abbrev pub invariant-loop-buf : goal.invariant-loop-buf
invariant-loop-buf l = Cut (sponge_of l.initial.session.level) l.flags l.step (seen l.initial.session) l.initial.on l.initial.buf (seen l.session) l.on l.buf l.a
    × (l.session.level ≡ l.initial.session.level)
    × (l.step ≡ piece_size l.size (length l.initial.buf))

abbrev pub decreases-loop-buf : goal.decreases-loop-buf
decreases-loop-buf l = length l.initial.buf - l.a
