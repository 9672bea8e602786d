-- A call that is not refused: which tests it passed, and that it leaves a session which the same operation may go on with. Assumes nothing.
use Prim.Native.Nat.{ℕ, suc, ◌+◌, ◌≤◌, ◌<◌}
use mathlib.Core.Path.{◌≡◌, refl, sym, ap, ◌∙◌}
use mathlib.Core.List.{List, [], ◌∷◌}
use mathlib.Core.Bool.{Bool, true, false, not, cond, ◌&&◌}
use lib.Dec.{eqb}
use lib.ListN.{length}
use borrow.Author.Tests.{le-ltb, ltb-false, eqb-true, eqb-false, eq-eqb}
use native.Mathlib.Omega.{arith}
use Rattle.strobe.specs.Answer.{refuses}
use Rattle.strobe.specs.Duplex.{Sponge, Duplex, Rule, placed, close, close_if_full, step, after}
use Rattle.strobe.specs.Flags.{C, K, has, operation, known, is_recv_mac, over_limit, rule_of, absorbing, ratchet_limit, mac_limit}
use Rattle.strobe.specs.Strobe.{Strobe, mixed, directed, forced, begin_op, opened, known_last, is_last, well_formed, refusal, worked, settled, call}
use Rattle.strobe.specs.declared.direction.Direction.{Direction}
use Rattle.strobe.specs.declared.flags.Flags.{Flags}
use Rattle.strobe.specs.declared.flags.Operation.{Operation}
use Rattle.strobe.specs.declared.flags.Operation.TheVariants.{Ad, Ratchet, Key, Prf, SendClr, RecvClr, SendMac, RecvMac, SendEnc, RecvEnc, Unknown}
use Rattle.strobe.proofs.Calls.{well_ordered, well_known, ordered_well}
use Rattle.strobe.proofs.Data.{Ordered, full_closed, not_full_kept}

-- ---- the tests

-- the number that six tests give, in their order; each is told by whether it fails
abbrev first_failed : Bool → Bool → Bool → Bool → Bool → Bool → ℕ
first_failed well key none cut other long = cond (not well) 8 (cond key 1 (cond none 2 (cond cut 4 (cond other 3 (cond long 5 0)))))

pub record Passed (rate : ℕ) (s : Strobe) (f : Flags) (more : Bool) (n : ℕ) : Type 0 where
  pub well : well_formed rate s ≡ true
  pub no_key : has f K ≡ false
  pub one_of_twenty : known (operation f) ≡ true
  pub not_cut : more && is_recv_mac (operation f) ≡ false
  pub same_last : more && not (is_last s.last f) ≡ false
  pub within_limit : over_limit (operation f) n ≡ false

not_false : (b : Bool) → not b ≡ false → b ≡ true
not_false true e = refl
not_false false e = sym e

all_passed : (w k o c l a : Bool) → first_failed w k (not o) c l a ≡ 0
    → (w ≡ true) × (k ≡ false) × (o ≡ true) × (c ≡ false) × (l ≡ false) × (a ≡ false)
all_passed false k o c l a e = absurd (omega arith)
all_passed true true o c l a e = absurd (omega arith)
all_passed true false false c l a e = absurd (omega arith)
all_passed true false true true l a e = absurd (omega arith)
all_passed true false true false true a e = absurd (omega arith)
all_passed true false true false false true e = absurd (omega arith)
all_passed true false true false false false e = (refl, refl, refl, refl, refl, refl)

pub passed_of : (rate : ℕ) (s : Strobe) (f : Flags) (more : Bool) (n : ℕ) → refusal rate s f more n ≡ 0 → Passed rate s f more n
unfolding refusal
passed_of rate s f more n e =
    let t = all_passed (well_formed rate s) (has f K) (known (operation f)) (more && is_recv_mac (operation f)) (more && not (is_last s.last f)) (over_limit (operation f) n) e in
    record { well = t.0; no_key = t.1; one_of_twenty = t.2; not_cut = t.3; same_last = t.4; within_limit = t.5 }

pub of_passed : (rate : ℕ) (s : Strobe) (f : Flags) (more : Bool) (n : ℕ) → Passed rate s f more n → refusal rate s f more n ≡ 0
unfolding refusal
of_passed rate s f more n t = rw (t.well, t.no_key, t.one_of_twenty, t.not_cut, t.same_last, t.within_limit)

-- what is not 0 is a refusal
pub refusal-refuses : (rate : ℕ) (s : Strobe) (f : Flags) (more : Bool) (n r : ℕ) → refusal rate s f more n ≡ suc r → refuses (suc r) ≡ true
unfolding refusal
refusal-refuses rate s f more n r e =
    rw (← e) (go (well_formed rate s) (has f K) (known (operation f)) (more && is_recv_mac (operation f)) (more && not (is_last s.last f)) (over_limit (operation f) n) r e)
  where
    go : (w k o c l a : Bool) (r : ℕ) → first_failed w k (not o) c l a ≡ suc r → refuses (first_failed w k (not o) c l a) ≡ true
    go false k o c l a r e = refl
    go true true o c l a r e = refl
    go true false false c l a r e = refl
    go true false true true l a r e = refl
    go true false true false true a r e = refl
    go true false true false false true r e = refl
    go true false true false false false r e = absurd (omega arith)

-- ---- fewer bytes

fewer_within : (o : Operation) (n m : ℕ) → n ≤ m → over_limit o m ≡ false → over_limit o n ≡ false
fewer_within Ad n m h e = refl
fewer_within Ratchet n m h e = le-ltb ratchet_limit n (omega (arith, ltb-false ratchet_limit m e))
fewer_within Key n m h e = refl
fewer_within Prf n m h e = refl
fewer_within SendClr n m h e = refl
fewer_within RecvClr n m h e = refl
fewer_within SendMac n m h e = refl
fewer_within RecvMac n m h e = le-ltb mac_limit n (omega (arith, ltb-false mac_limit m e))
fewer_within SendEnc n m h e = refl
fewer_within RecvEnc n m h e = refl
fewer_within Unknown n m h e = refl

-- fewer bytes get the same answer, unless there were too many
pub fewer_same : (rate : ℕ) (s : Strobe) (f : Flags) (more : Bool) (n m : ℕ) → n ≤ m → (refusal rate s f more m ≡ 5 → ⊥)
    → refusal rate s f more n ≡ refusal rate s f more m
unfolding refusal
fewer_same rate s f more n m h five =
    go (well_formed rate s) (has f K) (known (operation f)) (more && is_recv_mac (operation f)) (more && not (is_last s.last f))
    (over_limit (operation f) m) refl (over_limit (operation f) n) refl five
  where
    go : (w k o c l a : Bool) → over_limit (operation f) m ≡ a → (b : Bool) → over_limit (operation f) n ≡ b
        → (first_failed w k (not o) c l a ≡ 5 → ⊥) → first_failed w k (not o) c l b ≡ first_failed w k (not o) c l a
    go w k o c l false e b d five = let z : b ≡ false = sym d ∙ fewer_within (operation f) n m h e in rw z
    go false k o c l true e b d five = refl
    go true true o c l true e b d five = refl
    go true false false c l true e b d five = refl
    go true false true true l true e b d five = refl
    go true false true false true true e b d five = refl
    go true false true false false true e b d five = absurd (five refl)

-- ---- the positions stay ordered

module _ (sp : Sponge) where
  step_ordered : (r : Rule) (d : Duplex) (b : ℕ) → d.pos < sp.rate → d.begin ≤ d.pos + 1 → Ordered sp.rate (step sp r d b)
  unfolding step
  step_ordered r d b h k = go (eqb (d.pos + 1) sp.rate) refl
    where
      go : (t : Bool) → eqb (d.pos + 1) sp.rate ≡ t → Ordered sp.rate (close_if_full sp (placed r d b))
      go true e = rw (full_closed sp (placed r d b) (eqb-true _ _ e)) (record { below = omega arith; begun = omega arith })
      go false e =
          let apart : d.pos + 1 ≡ sp.rate → ⊥ = eqb-false _ _ e in
          rw (not_full_kept sp (placed r d b) apart) (record { below = omega arith; begun = k })

  pub after_ordered : (r : Rule) (d : Duplex) (bs : List ℕ) → Ordered sp.rate d → Ordered sp.rate (after sp r d bs)
  unfolding after
  after_ordered r d [] h = h
  after_ordered r d (b ∷ bs) h = after_ordered r (step sp r d b) bs (step_ordered r d b h.below (omega (arith, h.begun)))

  forced_ordered : (f : Flags) (d : Duplex) → Ordered sp.rate d → Ordered sp.rate (forced sp f d)
  unfolding forced
  forced_ordered f d h = go (has f C && not (eqb d.pos 0))
    where
      go : (t : Bool) → Ordered sp.rate (cond t (close sp d) d)
      go true = record { below = omega (arith, h.below); begun = omega arith }
      go false = h

  pub begin_ordered : (dir : Direction) (f : Flags) (d : Duplex) → Ordered sp.rate d → Ordered sp.rate (begin_op sp dir f d)
  unfolding begin_op after
  begin_ordered dir f d h =
      let d₁ : Duplex = record { st = d.st; pos = d.pos; begin = d.pos + 1 } in
      let one = step_ordered absorbing d₁ d.begin h.below (omega arith) in
      forced_ordered f (step sp absorbing (step sp absorbing d₁ d.begin) (mixed dir f))
      (step_ordered absorbing (step sp absorbing d₁ d.begin) (mixed dir f) one.below (omega (arith, one.begun)))

  -- ---- the session behind a call

  pub opened_ordered : (s : Strobe) (f : Flags) (more : Bool) → Ordered sp.rate s.duplex → Ordered sp.rate (opened sp s f more).duplex
  unfolding opened
  opened_ordered s f true h = h
  opened_ordered s f false h = begin_ordered (directed s.direction f) f s.duplex h

  -- a call that is not refused opens the operation and works
  pub call-done : (s : Strobe) (f : Flags) (more : Bool) (bs : List ℕ) → refusal sp.rate s f more (length bs) ≡ 0
      → call sp s f more bs ≡ worked sp (opened sp s f more) (operation f) bs
  unfolding call settled
  call-done s f more bs e = rw e

  pub opened_more : (s : Strobe) (f : Flags) → opened sp s f true ≡ s
  unfolding opened
  opened_more s f = refl

  -- its last operation is the one that was called
  pub opened_last : (s : Strobe) (f : Flags) (more : Bool) → more && not (is_last s.last f) ≡ false → is_last (opened sp s f more).last f ≡ true
  unfolding opened
  opened_last s f true e = not_false (is_last s.last f) e
  opened_last s f false e = eq-eqb f.0 f.0 refl

  pub opened-known : (s : Strobe) (f : Flags) (more : Bool) → known_last s.last ≡ true → known (operation f) ≡ true → known_last (opened sp s f more).last ≡ true
  unfolding opened
  opened-known s f true e k = e
  opened-known s f false e k = k

  -- the same operation may go on with it, within its limit, unless it is a received MAC
  pub goes_on : (s : Strobe) (f : Flags) (more : Bool) (n m : ℕ) (bs : List ℕ) → is_recv_mac (operation f) ≡ false
      → Passed sp.rate s f more n → m ≤ n
      → Passed sp.rate (worked sp (opened sp s f more) (operation f) bs).strobe f true m
  unfolding worked
  goes_on s f more n m bs nm t h =
      let o = opened sp s f more in
      record {
        well = ordered_well sp.rate _
            (after_ordered (rule_of (operation f)) o.duplex bs (opened_ordered s f more (well_ordered sp.rate s t.well)))
            (opened-known s f more (well_known sp.rate s t.well) t.one_of_twenty);
        no_key = t.no_key;
        one_of_twenty = t.one_of_twenty;
        not_cut = nm;
        same_last = ap not (opened_last s f more t.same_last);
        within_limit = fewer_within (operation f) m n h t.within_limit;
      }
