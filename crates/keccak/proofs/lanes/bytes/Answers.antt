use mathlib.Core.Path.{◌≡◌, ap, ◌∙◌}
use native.Mathlib.Omega.{arith}
use Prim.Native.Nat.{◌+◌, ◌-◌, ◌*◌}
use lib.ListN.{get_or}
use borrow.Author.Rules.{rules}
use borrow.Rule.Slice.PartMut.{put_mid}
use Rattle.keccak.proofs.Chunks.{bytes_are_lane}
use Rattle.keccak.proofs.Loops.{turns, turns_more, write_at, write_all}
use Rattle.keccak.proofs.lanes.bytes.Goals as goal

pub loop-i-init : goal.loop-i-init
unfolding turns
loop-i-init c = search rules

pub loop-i-preserved : goal.loop-i-preserved
loop-i-preserved c =
    let l = c.loop-i in
    let eight : l.i * 8 + 8 - l.i * 8 ≡ 8 = omega arith in
    turns_more (write_at c.args.a) l.i _ l.invariant
    (rw eight (ap (put_mid (l.i * 8) 8 l.out) (c.copy_from_slice.ensures.after ∙ c.to_le_bytes.ensures ∙ bytes_are_lane (get_or c.args.a l.i 0))))

pub returns : goal.returns
returns c = let e : c.loop-i.i ≡ 25 = omega arith in rw e at c.loop-i.invariant ∙ write_all c.args.a
