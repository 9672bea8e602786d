use mathlib.Core.Path.{◌≡◌, refl, ◌∙◌}
use native.Mathlib.Omega.{arith}
use borrow.Author.Rules.{rules}
use Rattle.keccak.proofs.Loops.{turns, turns_more, complement_all}
use Rattle.keccak.proofs.round.complement_marked.Goals as goal

pub loop-i-init : goal.loop-i-init
unfolding turns
loop-i-init c = refl

pub loop-i-preserved : goal.loop-i-preserved
loop-i-preserved c = turns_more _ c.loop-i.i-index _ c.loop-i.invariant refl

pub returns : goal.returns
returns c =
    let all : c.loop-i.i-index ≡ 6 = omega arith in
    rw all at c.loop-i.invariant ∙ complement_all c.args.a (search rules)
