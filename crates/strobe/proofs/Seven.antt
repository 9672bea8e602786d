-- No call and no creation is answered 7: that answer is the journal's own. Assumes nothing.
use Prim.Native.Nat.{ℕ, zero, suc}
use mathlib.Core.Path.{◌≡◌}
use mathlib.Core.List.{List}
use mathlib.Core.Bool.{Bool, true, false, not, cond, ◌&&◌}
use native.Mathlib.Omega.{arith}
use lib.Dec.{eqb}
use lib.ListN.{length}
use Rattle.strobe.specs.Answer.{done, key_flag, no_operation, not_the_last, cut_mac, too_long, no_level, bad_line, not_a_session, mac_unequal}
use Rattle.strobe.specs.Duplex.{Sponge, met, same}
use Rattle.strobe.specs.Flags.{K, has, operation, known, is_recv_mac, over_limit, rule_of}
use Rattle.strobe.specs.Session.{given, fresh_at, blank, created}
use Rattle.strobe.specs.Strobe.{Strobe, opened, well_formed, is_last, refusal, verdict, worked, settled, call}
use Rattle.strobe.specs.declared.flags.Flags.{Flags}
use Rattle.strobe.specs.declared.level.Level.TheVariants.{B128, B256}

refusal_not_seven : (rate : ℕ) (s : Strobe) (f : Flags) (more : Bool) (n : ℕ) → refusal rate s f more n ≡ bad_line → ⊥
unfolding refusal
refusal_not_seven rate s f more n =
    go (not (well_formed rate s)) (has f K) (not (known (operation f))) (more && is_recv_mac (operation f)) (more && not (is_last s.last f)) (over_limit (operation f) n)
  where
    go : (a b c d e g : Bool) → cond a not_a_session (cond b key_flag (cond c no_operation (cond d cut_mac (cond e not_the_last (cond g too_long done))))) ≡ bad_line → ⊥
    go true b c d e g h = omega (arith, h)
    go false true c d e g h = omega (arith, h)
    go false false true d e g h = omega (arith, h)
    go false false false true e g h = omega (arith, h)
    go false false false false true g h = omega (arith, h)
    go false false false false false true h = omega (arith, h)
    go false false false false false false h = omega (arith, h)

verdict_not_seven : (t : Bool) → cond t mac_unequal done ≡ bad_line → ⊥
verdict_not_seven true h = omega (arith, h)
verdict_not_seven false h = omega (arith, h)

pub call_not_seven : (sp : Sponge) (s : Strobe) (f : Flags) (more : Bool) (bs : List ℕ) → (call sp s f more bs).answer ≡ bad_line → ⊥
unfolding call settled worked verdict
call_not_seven sp s f more bs = go (refusal sp.rate s f more (length bs)) (refusal_not_seven sp.rate s f more (length bs))
  where
    go : (r : ℕ) → (r ≡ bad_line → ⊥) → (settled sp r s f more bs).answer ≡ bad_line → ⊥
    go zero h k = verdict_not_seven (is_recv_mac (operation f) && not (same (met sp (rule_of (operation f)) (opened sp s f more).duplex bs) bs)) k
    go (suc r) h k = h k

pub created_not_seven : (name : List ℕ) (n : ℕ) → (created name n).answer ≡ bad_line → ⊥
unfolding created
created_not_seven name n = go (eqb n 128) (eqb n 256)
  where
    go : (a b : Bool) → (cond a (fresh_at B128 name) (cond b (fresh_at B256 name) (given no_level blank))).answer ≡ bad_line → ⊥
    go true b h = omega (arith, h)
    go false true h = omega (arith, h)
    go false false h = omega (arith, h)
