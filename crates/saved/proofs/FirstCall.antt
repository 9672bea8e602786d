-- A session that was saved and loaded again, and the one that was saved: no call tells them apart in edition 2, and in edition 1 they differ only until
-- the first operation is opened. Assumes nothing.
use Prim.Native.Nat.{ℕ, zero, suc}
use mathlib.Core.Path.{◌≡◌, refl, ap, ◌∙◌}
use mathlib.Core.List.{List, [], ◌∷◌}
use mathlib.Core.Bool.{Bool, true, false, not, cond}
use lib.ListN.{length}
use native.Mathlib.Omega.{arith}
use borrow.Author.Tests.{not-true}
use Rattle.laws.proofs.Bools.{true_not_false}
use Rattle.strobe.proofs.Accepted.{refusal-refuses}
use Rattle.strobe.proofs.Calls.{well_ordered, ordered_well}
use Rattle.strobe.proofs.Runs.{refused-ran, refused-struck, struck-ran}
use Rattle.strobe.specs.Answer.{refuses}
use Rattle.strobe.specs.Duplex.{Sponge}
use Rattle.strobe.specs.Flags.{K, has, operation, known, is_recv_mac}
use Rattle.strobe.specs.Runs.{Call, effect, accepts, ran, struck, opens}
use Rattle.strobe.specs.Session.{rate_of, sponge_of, seen}
use Rattle.strobe.specs.Strobe.{Strobe, opened, well_formed, refusal, settled, call}
use Rattle.strobe.specs.declared.flags.Flags.{Flags}
use Rattle.strobe.specs.declared.session.Session.{Session}
use Rattle.saved.specs.Saved.{edition1, edition2, form, loaded}
use Rattle.saved.proofs.RoundTrip.{load_of_form}
use Rattle.saved.specs.AfterLoad.{without_last, waiting, kept, loaded_after, saved_after, AfterLoad}

opening-opens : (c : Call) (cs : List Call) → c.more ≡ false → opens (c ∷ cs) ≡ true
unfolding opens
opening-opens c cs e = rw e

module _ (sp : Sponge) where
  nothing-kept : (s : Strobe) (cs : List Call) → kept sp s (without_last s) cs ≡ [] → saved_after sp s (without_last s) cs ≡ s
  unfolding ran
  nothing-kept s cs e = ap (ran sp s) e

-- ---- one call, on a well-formed session and on the same without its last operation

without_well : (rate : ℕ) (s : Strobe) → well_formed rate s ≡ true → well_formed rate (without_last s) ≡ true
without_well rate s w = ordered_well rate (without_last s) (well_ordered rate s w) refl

pub waiting-refuses : (f : Flags) → refuses (waiting f) ≡ true
unfolding waiting
waiting-refuses f = grind arith

module _ (sp : Sponge) (s : Strobe) (w : well_formed sp.rate s ≡ true) where
  pub more_waits : (f : Flags) (bs : List ℕ)
      → call sp (without_last s) f true bs ≡ record { answer = waiting f; strobe = without_last s; lent = bs }
  unfolding call refusal settled waiting
  more_waits f bs = rw (without_well sp.rate s w) (go (has f K) (known (operation f)) (is_recv_mac (operation f)))
    where
      go : (k o m : Bool) → let n = cond {A = ℕ} k 1 (cond (not o) 2 (cond m 4 3)) in
          settled sp n (without_last s) f true bs ≡ record { answer = n; strobe = without_last s; lent = bs }
      go true o m = refl
      go false false m = refl
      go false true true = refl
      go false true false = refl

  more_refused : (c : Call) → c.more ≡ true → accepts sp (without_last s) c ≡ false
  more_refused c e = rw (e, more_waits c.flags c.bytes, waiting-refuses c.flags)

  -- only `more` asks for the last operation
  opening_same_refusal : (f : Flags) (n : ℕ) → refusal sp.rate (without_last s) f false n ≡ refusal sp.rate s f false n
  unfolding refusal
  opening_same_refusal f n = rw (w, without_well sp.rate s w)

  opening-same : (f : Flags) (bs : List ℕ)
      → let e = call sp (without_last s) f false bs in
      let d = call sp s f false bs in
      (e.answer ≡ d.answer) × (e.lent ≡ d.lent) × (refuses e.answer ≡ false → e.strobe ≡ d.strobe)
  unfolding call settled opened
  opening-same f bs = rw (opening_same_refusal f (length bs)) (go (refusal sp.rate s f false (length bs)) refl)
    where
      go : (n : ℕ) → refusal sp.rate s f false (length bs) ≡ n
          → let e = settled sp n (without_last s) f false bs in
          let d = settled sp n s f false bs in
          (e.answer ≡ d.answer) × (e.lent ≡ d.lent) × (refuses e.answer ≡ false → e.strobe ≡ d.strobe)
      go zero e = (refl, refl, λ a. refl)
      go (suc n) e = (refl, refl, λ a. absurd (true_not_false (refusal-refuses sp.rate s f false (length bs) n e) a))

  opening_same_session : (c : Call) → c.more ≡ false → accepts sp (without_last s) c ≡ true
      → (effect sp (without_last s) c).strobe ≡ (effect sp s c).strobe
  opening_same_session c e a = rw e ((opening-same c.flags c.bytes).2 (not-true _ (rw e at a)))

  -- ---- any calls

  -- of the accepted calls and the session after them: before an opening nothing is accepted, after one the two sessions are one
  abbrev Afterwards : List Call → Strobe → Type 0
  Afterwards ks t = (opens ks ≡ false → (ks ≡ []) × (t ≡ without_last s)) × (opens ks ≡ true → t ≡ ran sp s ks)

  accepted_opens : (c : Call) → accepts sp (without_last s) c ≡ true → c.more ≡ false
  accepted_opens c a = grind (arith, more_refused)

  afterwards : (cs : List Call) → Afterwards (kept sp s (without_last s) cs) (loaded_after sp s (without_last s) cs)
  unfolding ran struck opens
  afterwards [] = (λ e. (refl, refl), λ e. absurd (true_not_false e refl))
  afterwards (c ∷ cs) = go (accepts sp (without_last s) c) refl (afterwards cs)
    where
      go : (t : Bool) → accepts sp (without_last s) c ≡ t → Afterwards (kept sp s (without_last s) cs) (loaded_after sp s (without_last s) cs)
          → Afterwards (kept sp s (without_last s) (c ∷ cs)) (loaded_after sp s (without_last s) (c ∷ cs))
      go false a ih = rw (refused-struck sp (without_last s) c cs a, refused-ran sp (without_last s) c cs a) ih
      go true a ih =
          let m = accepted_opens c a in
          let rest = struck sp (effect sp (without_last s) c).strobe cs in
          rw a (
            λ e. absurd (true_not_false (opening-opens c rest m) e),
            λ e. struck-ran sp (effect sp (without_last s) c).strobe cs ∙ ap (λ (x : Strobe). ran sp x rest) (opening_same_session c m a),
          )

pub calls_without_last : (sp : Sponge) (s : Strobe) → well_formed sp.rate s ≡ true → (cs : List Call) (c : Call) → AfterLoad sp s (without_last s) cs c
calls_without_last sp s w cs c =
    let b = afterwards sp s w cs in
    let same = opening-same sp s w c.flags c.bytes in
    record {
      waits = λ o e. rw ((b.0 o).1, e, more_waits sp s w c.flags c.bytes);
      first_answer = λ o e. rw ((b.0 o).1, nothing-kept sp s cs (b.0 o).0, e) same.0;
      first_lent = λ o e. rw ((b.0 o).1, nothing-kept sp s cs (b.0 o).0, e) same.1;
      first_session = λ o e a. rw ((b.0 o).1, nothing-kept sp s cs (b.0 o).0) (opening_same_session sp s w c e (rw (b.0 o).1 at a));
      same_session = b.1;
      same_effect = λ o. ap (λ (x : Strobe). effect sp x c) (b.1 o);
    }

-- ---- a session that was saved and loaded

pub first_call_after_load : (s : Session) → length s.state ≡ 200 → well_formed (rate_of s.level) (seen s) ≡ true → (cs : List Call) (c : Call)
    → let l = (loaded (form edition1 s)).session in AfterLoad (sponge_of l.level) (seen s) (seen l) cs c
first_call_after_load s e w cs c = rw (load_of_form edition1 s e w) (calls_without_last (sponge_of s.level) (seen s) w cs c)

-- in edition 2 no first call is special
pub every_call_after_load : (s : Session) → length s.state ≡ 200 → well_formed (rate_of s.level) (seen s) ≡ true → (cs : List Call) (c : Call)
    → let l = (loaded (form edition2 s)).session in
    let sp = sponge_of l.level in
    (effect sp (ran sp (seen l) cs) c ≡ effect sp (ran sp (seen s) cs) c)
every_call_after_load s e w cs c = rw (load_of_form edition2 s e w)
