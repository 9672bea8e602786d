use mathlib.Core.List.{[], ◌∷◌}
use native.Mathlib.Omega.{arith}
use lib.ListN.{get_or, length-drop}
use lib.Seq.{drop-cons}
use native.Mathlib.Numerals.{add-one}
use Rattle.strobe.specs.Duplex.{after}
use Rattle.strobe.specs.Flags.{overwriting}
use Rattle.strobe.proofs.Loops.{left_turn, left_stop, same_turn, same_stop}
use Rattle.strobe.proofs.duplex.State.check_mac.Goals as goal

pub loop-byte-preserved : goal.loop-byte-preserved
unfolding after
loop-byte-preserved c =
    let l = c.loop-byte in
    let mac = c.args.mac.now in
    record {
      left = left_turn overwriting _ _ l.self _ (get_or mac l.byte-index 0 ∷ []) _ (rw (drop-cons mac l.byte-index 0 c.loop-byte-test.true, add-one l.byte-index)) l.invariant.left _ c.meet.ensures;
      same = same_turn overwriting l.self mac l.byte-index l.same _ c.loop-byte-test.true l.invariant.same _ c.meet.ensures;
    }

pub returns : goal.returns
returns c =
    let l = c.loop-byte in
    let t = c.loop-byte-test.false in
    record {
      fed = left_stop overwriting _ _ l.self _ (rw (length-drop l.byte-index c.args.mac.now) (omega arith)) l.invariant.left;
      same = same_stop overwriting l.self _ _ _ _ t l.invariant.same;
    }
