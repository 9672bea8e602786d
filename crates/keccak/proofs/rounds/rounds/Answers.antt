use mathlib.Core.Path.{◌≡◌, refl, ap, ◌∙◌}
use Prim.Native.Nat.{ℕ, ◌+◌, ◌*◌}
use native.Mathlib.Omega.{arith}
use borrow.Author.Rules.{rules}
use lib.ListN.{get_or}
use mir.Val.{Fits}
use mir.Syntax.{w64}
use Rattle.fips202.specs.Keccak.{add_last, register, rc}
use Rattle.fips202.specs.Lanes.{round_lanes}
use Rattle.fips202.proofs.Steps.{below_fits}
use Rattle.keccak.specs.Complemented.{complemented}
use Rattle.keccak.proofs.Loops.{turns, turns_more, turns_join, round_at, round_all, constant_at}
use Rattle.keccak.proofs.rounds.rounds.Goals as goal

-- the second `refl` computes that the table has the constants of rc(t), once over all of it
pub loop-i-init : goal.loop-i-init
unfolding turns add_last register rc
loop-i-init c = (refl, refl)

pub loop-j-init : goal.loop-j-init
unfolding turns
loop-j-init c = refl

pub loop-j-preserved : goal.loop-j-preserved
loop-j-preserved c =
    let inner = c.loop-j in
    let outer = c.loop-i in
    let constant = constant_at _ outer.invariant.1 (2 * outer.i + inner.j) (omega arith) in
    turns_more (λ k. round_at (2 * outer.i + k)) inner.j _ inner.invariant
    (c.round-t.ensures ∙ ap (λ (lane : ℕ). complemented 64 (round_lanes 64 lane (complemented 64 inner.s))) constant)

pub loop-i-preserved : goal.loop-i-preserved
loop-i-preserved c =
    let inner = c.loop-j in
    let outer = c.loop-i in
    let s₀ = c.complement_marked-s.result in
    let both : inner.j ≡ 2 = omega arith in
    let two-more : 2 * (outer.i + 1) ≡ 2 * outer.i + 2 = omega arith in (
      rw two-more
          ((rw both at inner.invariant) ∙ ap (turns (λ k. round_at (2 * outer.i + k)) 2) outer.invariant.0 ∙ turns_join round_at (2 * outer.i) 2 s₀),
      outer.invariant.1,
    )

pub returns : goal.returns
returns c =
    let outer = c.loop-i in
    let a = c.args.a in
    let all : outer.i ≡ 12 = omega arith in
    c.complement_marked.ensures
    ∙ ap (complemented 64) ((rw all at outer.invariant.0) ∙ ap (turns round_at 24) c.complement_marked-s.ensures)
    ∙ round_all a (below_fits 64 a (λ j. let f : Fits w64 (get_or a j 0) = search rules in omega arith)) (search rules)
