use mathlib.Core.Path.{sym, ◌∙◌}
use native.Mathlib.Omega.{arith}
use borrow.Author.Rules.{rules}
use borrow.Author.Count.{below_more}
use lib.ListN.{get_or}
use Rattle.std.proofs.lemmas.Grind.{common_steps}
use Rattle.keccak_vectors.proofs.Pairs.{pair_of_byte, byte_of_pair}
use Rattle.keccak_vectors.proofs.line.parse.Goals as goal

-- Two digits that are no byte's: no state has this line.
pub returns-in_err-state-clause-by_index : goal.returns-in_err-state-clause-by_index
returns-in_err-state-clause-by_index c s bytes spelt =
    let i = c.loop-i.i in
    let digits = spelt.0 i (omega arith) in
    let pair = pair_of_byte _ _ (get_or s i 0) (bytes i) digits.0 digits.1 in
    cc (sym c.byte.ensures ∙ c.in_err-state.was, pair)

pub loop-i-preserved : goal.loop-i-preserved
loop-i-preserved c =
    let l = c.loop-i in
    let v = c.in_ok-state.field-0 in
    let pair = byte_of_pair _ _ v (sym c.byte.ensures ∙ c.in_ok-state.was) in (
      search rules,
      below_more _ l.i (λ k h. grind (arith, common_steps, l.invariant.1 k h)) (grind (arith, common_steps, pair)),
    )
