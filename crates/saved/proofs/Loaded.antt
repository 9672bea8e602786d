-- A session that was loaded gets 8 from no call and no save; a load that is refused gives the blank, which gets nothing else. Assumes nothing.
use Prim.Native.Nat.{ℕ}
use mathlib.Core.Path.{◌≡◌, refl}
use mathlib.Core.List.{List}
use mathlib.Core.Bool.{true}
use native.Mathlib.Omega.{arith}
use Rattle.strobe.specs.Answer.{done, not_a_session, refuses}
use Rattle.strobe.specs.Runs.{Call, effect, ran}
use Rattle.strobe.specs.Session.{sponge_of, seen, blank}
use Rattle.strobe.specs.Strobe.{well_formed}
use Rattle.strobe.proofs.Refused.{blank-refused}
use Rattle.strobe.proofs.Runs.{ran_is_a_session, blank_stays}
use Rattle.saved.specs.Saved.{loaded_with, loaded, saving}
use Rattle.saved.proofs.RoundTrip.{loaded_well}

-- ---- after a load that is done

-- whatever calls came before
pub loaded_is_a_session : (bs : List ℕ) → (loaded bs).answer ≡ done → (cs : List Call) (c : Call)
    → let sp = sponge_of (loaded bs).session.level in
    (effect sp (ran sp (seen (loaded bs).session) cs) c).answer ≡ not_a_session → ⊥
loaded_is_a_session bs e cs c = ran_is_a_session (sponge_of (loaded bs).session.level) (seen (loaded bs).session) cs c (loaded_well bs e)

pub loaded_saves : (bs buf : List ℕ) → (loaded bs).answer ≡ done → (saving (loaded bs).session buf).answer ≡ not_a_session → ⊥
unfolding saving
loaded_saves bs buf e = grind (arith, loaded_well bs e)

-- ---- after a load that is refused

refused_with_blank : (bs : List ℕ) (last : ℕ) → refuses (loaded_with bs last).answer ≡ true → (loaded_with bs last).session ≡ blank
unfolding loaded_with
refused_with_blank bs last e = grind arith

pub refused_load_blank : (bs : List ℕ) → refuses (loaded bs).answer ≡ true → (loaded bs).session ≡ blank
unfolding loaded
refused_load_blank bs e = grind (arith, refused_with_blank)

-- whatever calls came before
pub refused_load_refuses : (bs : List ℕ) → refuses (loaded bs).answer ≡ true → (cs : List Call) (c : Call)
    → let s = (loaded bs).session in
    let sp = sponge_of s.level in
    effect sp (ran sp (seen s) cs) c ≡ record { answer = not_a_session; strobe = seen blank; lent = c.bytes }
refused_load_refuses bs e cs c = rw (refused_load_blank bs e, blank_stays cs) (blank-refused c.flags c.more c.bytes)

pub blank_not_saved : (buf : List ℕ) → saving blank buf ≡ record { answer = not_a_session; lent = buf }
unfolding saving well_formed
blank_not_saved buf = refl
