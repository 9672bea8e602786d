-- Calls one after another: a well-formed session stays so and no call on it gets 8, a blank stays a blank, and the refused calls might as well not have been
-- made. Assumes nothing.
use Prim.Native.Nat.{ℕ, zero, suc}
use mathlib.Core.Path.{◌≡◌, refl, ap, ◌∙◌}
use mathlib.Core.List.{List, [], ◌∷◌}
use mathlib.Core.Bool.{Bool, true, false, not, cond, ◌&&◌}
use lib.ListN.{length}
use borrow.Author.Tests.{not-false}
use native.Mathlib.Omega.{arith}
use Rattle.strobe.specs.Answer.{not_a_session}
use Rattle.strobe.specs.Duplex.{Sponge, met, same}
use Rattle.strobe.specs.Flags.{K, has, operation, known, is_recv_mac, over_limit, rule_of}
use Rattle.strobe.specs.Runs.{Call, effect, accepts, ran, struck}
use Rattle.strobe.specs.Session.{sponge_of, seen, blank}
use Rattle.strobe.specs.Strobe.{Strobe, opened, is_last, well_formed, refusal, verdict, worked, settled, call}
use Rattle.strobe.specs.declared.flags.Flags.{Flags}
use Rattle.strobe.specs.declared.level.Level.TheVariants.{B128}
use Rattle.strobe.proofs.Accepted.{passed_of, after_ordered, opened_ordered, opened-known}
use Rattle.strobe.proofs.Calls.{well_ordered, well_known, ordered_well}
use Rattle.strobe.proofs.Refused.{refused_unchanged, blank-refused}

module _ (sp : Sponge) where
  pub call_well : (s : Strobe) (f : Flags) (more : Bool) (bs : List ℕ) → well_formed sp.rate s ≡ true
      → well_formed sp.rate (call sp s f more bs).strobe ≡ true
  unfolding call settled worked
  call_well s f more bs w = go (refusal sp.rate s f more (length bs)) refl
    where
      go : (n : ℕ) → refusal sp.rate s f more (length bs) ≡ n → well_formed sp.rate (settled sp n s f more bs).strobe ≡ true
      go zero e =
          ordered_well sp.rate _
          (after_ordered sp (rule_of (operation f)) (opened sp s f more).duplex bs (opened_ordered sp s f more (well_ordered sp.rate s w)))
          (opened-known sp s f more (well_known sp.rate s w) (passed_of sp.rate s f more (length bs) e).one_of_twenty)
      go (suc n) e = w

  pub ran_well : (s : Strobe) (cs : List Call) → well_formed sp.rate s ≡ true → well_formed sp.rate (ran sp s cs) ≡ true
  unfolding ran
  ran_well s [] w = w
  ran_well s (c ∷ cs) w = ran_well (effect sp s c).strobe cs (call_well s c.flags c.more c.bytes w)

  -- 8 is what a session gets that is not well formed, and no other
  pub well_is_a_session : (s : Strobe) (f : Flags) (more : Bool) (bs : List ℕ) → well_formed sp.rate s ≡ true
      → (call sp s f more bs).answer ≡ not_a_session → ⊥
  unfolding call refusal settled worked verdict
  well_is_a_session s f more bs w =
      rw w
      (go (has f K) (known (operation f)) (more && is_recv_mac (operation f)) (more && not (is_last s.last f)) (over_limit (operation f) (length bs)))
    where
      judged : (t : Bool) → cond {A = ℕ} t 9 0 ≡ 8 → ⊥
      judged true e = omega arith
      judged false e = omega arith

      go : (k o m l a : Bool) → (settled sp (cond k 1 (cond (not o) 2 (cond m 4 (cond l 3 (cond a 5 0))))) s f more bs).answer ≡ 8 → ⊥
      go true o m l a e = omega arith
      go false false m l a e = omega arith
      go false true true l a e = omega arith
      go false true false true a e = omega arith
      go false true false false true e = omega arith
      go false true false false false e =
          judged (is_recv_mac (operation f) && not (same (met sp (rule_of (operation f)) (opened sp s f more).duplex bs) bs)) e

  pub ran_is_a_session : (s : Strobe) (cs : List Call) (c : Call) → well_formed sp.rate s ≡ true → (effect sp (ran sp s cs) c).answer ≡ not_a_session → ⊥
  ran_is_a_session s cs c w = well_is_a_session (ran sp s cs) c.flags c.more c.bytes (ran_well s cs w)

pub blank_stays : (cs : List Call) → ran (sponge_of B128) (seen blank) cs ≡ seen blank
unfolding ran
blank_stays [] = refl
blank_stays (c ∷ cs) = rw (blank-refused c.flags c.more c.bytes) (blank_stays cs)

-- ---- a refused call might as well not have been made

module _ (sp : Sponge) where
  refused-same : (s : Strobe) (c : Call) → accepts sp s c ≡ false → (effect sp s c).strobe ≡ s
  refused-same s c e = (refused_unchanged sp s c.flags c.more c.bytes (not-false _ e)).0

  pub refused-ran : (s : Strobe) (c : Call) (cs : List Call) → accepts sp s c ≡ false → ran sp s (c ∷ cs) ≡ ran sp s cs
  unfolding ran
  refused-ran s c cs e = ap (λ (x : Strobe). ran sp x cs) (refused-same s c e)

  pub refused-struck : (s : Strobe) (c : Call) (cs : List Call) → accepts sp s c ≡ false → struck sp s (c ∷ cs) ≡ struck sp s cs
  unfolding struck
  refused-struck s c cs e = rw e (ap (λ (x : Strobe). struck sp x cs) (refused-same s c e))

  pub struck-ran : (s : Strobe) (cs : List Call) → ran sp s cs ≡ ran sp s (struck sp s cs)
  unfolding ran struck
  struck-ran s [] = refl
  struck-ran s (c ∷ cs) = go (accepts sp s c) refl (struck-ran (effect sp s c).strobe cs)
    where
      rest : List Call
      rest = struck sp (effect sp s c).strobe cs

      go : (t : Bool) → accepts sp s c ≡ t → ran sp (effect sp s c).strobe cs ≡ ran sp (effect sp s c).strobe rest
          → ran sp (effect sp s c).strobe cs ≡ ran sp s (cond t (c ∷ rest) rest)
      go true e ih = ih
      go false e ih = ih ∙ ap (λ (x : Strobe). ran sp x rest) (refused-same s c e)
