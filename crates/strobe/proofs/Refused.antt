-- A refusal changes nothing; a refused creation gives the blank, and a blank gets no other answer than 8. Assumes nothing.
use Prim.Native.Nat.{ℕ, zero, suc}
use mathlib.Core.Path.{◌≡◌, refl}
use mathlib.Core.List.{List}
use mathlib.Core.Bool.{Bool, true, false, not, cond, ◌&&◌}
use lib.Dec.{eqb}
use lib.ListN.{length}
use Rattle.laws.proofs.Bools.{true_not_false}
use Rattle.strobe.specs.Answer.{no_level, not_a_session, refuses}
use Rattle.strobe.specs.Duplex.{Sponge, met, same}
use Rattle.strobe.specs.Flags.{operation, is_recv_mac, rule_of}
use Rattle.strobe.specs.Session.{sponge_of, seen, fresh_at, given, blank, created}
use Rattle.strobe.specs.Strobe.{Strobe, opened, well_formed, refusal, verdict, worked, settled, call}
use Rattle.strobe.specs.declared.flags.Flags.{Flags}
use Rattle.strobe.specs.declared.level.Level.TheVariants.{B128, B256}

-- work that is done ends in 0 or 9
work_no_refusal : (t : Bool) → refuses (cond t 9 0) ≡ true → ⊥
work_no_refusal true e = true_not_false e refl
work_no_refusal false e = true_not_false e refl

pub refused_unchanged : (sp : Sponge) (s : Strobe) (f : Flags) (more : Bool) (bs : List ℕ) → refuses (call sp s f more bs).answer ≡ true
    → ((call sp s f more bs).strobe ≡ s) × ((call sp s f more bs).lent ≡ bs)
unfolding call settled worked verdict
refused_unchanged sp s f more bs e = go (refusal sp.rate s f more (length bs)) e
  where
    go : (n : ℕ) → refuses (settled sp n s f more bs).answer ≡ true → ((settled sp n s f more bs).strobe ≡ s) × ((settled sp n s f more bs).lent ≡ bs)
    go zero e =
        absurd (work_no_refusal (is_recv_mac (operation f) && not (same (met sp (rule_of (operation f)) (opened sp s f more).duplex bs) bs)) e)
    go (suc n) e = (refl, refl)

pub blank-refused : (f : Flags) (more : Bool) (bs : List ℕ)
    → call (sponge_of B128) (seen blank) f more bs ≡ record { answer = not_a_session; strobe = seen blank; lent = bs }
unfolding call settled refusal well_formed
blank-refused f more bs = refl

pub refused_creation_blank : (name : List ℕ) (n : ℕ) → refuses (created name n).answer ≡ true → (created name n).session ≡ blank
unfolding created
refused_creation_blank name n e = go (eqb n 128) (eqb n 256) e
  where
    go : (t u : Bool) → let g = cond t (fresh_at B128 name) (cond u (fresh_at B256 name) (given no_level blank)) in refuses g.answer ≡ true → g.session ≡ blank
    go true u e = absurd (work_no_refusal false e)
    go false true e = absurd (work_no_refusal false e)
    go false false e = refl
