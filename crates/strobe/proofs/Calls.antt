-- Laws of a call: the flags that are mixed in, the refusals, the opening, and the work's outcome. Assumes nothing.
use Prim.Native.Nat.{ℕ, zero, suc, ◌≤◌, ◌<◌}
use mathlib.Core.Path.{◌≡◌, refl, sym, ap, subst, ◌∙◌}
use mathlib.Core.List.{List}
use mathlib.Core.Bool.{Bool, true, false, not, cond, ◌&&◌}
use lib.Dec.{ltb, leb, lit≤}
use lib.ListN.{length, replicate, length-replicate}
use borrow.Author.Tests.{lt-ltb, ltb-true, le-leb, leb-true}
use native.Mathlib.Omega.{arith}
use denote.Ref.{MutBor}
use Rattle.std.specs.Fn.{Mut, Called, CalledAtMut}
use Rattle.laws.proofs.Bools.{and_left, and_right}
use Rattle.strobe.specs.Duplex.{Sponge, Duplex, Rule, met, same}
use Rattle.strobe.specs.Flags.{K, META_AD, has, operation_of, operation, is_recv_mac, zeroing, overwriting, rule_of}
use Rattle.strobe.specs.Loops.{duplex_of, Fed, Ran, strobe_of, among, takers, changers, macs, ratchets, KeepsRate, Worked, Settles, Operates}
use Rattle.strobe.specs.Session.{rate_of, sponge, sponge_of, seen, held, given, fresh_at, Is, Comes, Calls}
use Rattle.strobe.specs.Strobe.{Strobe, disagrees, opened, known_last, well_formed, refusal, verdict, worked, settled, call, unnamed, fresh}
use Rattle.strobe.specs.Answer.{number}
use Rattle.strobe.specs.declared.direction.Direction.{Direction}
use Rattle.strobe.specs.declared.direction.Direction.TheVariants.{Neither, Sender, Receiver}
use Rattle.strobe.specs.declared.answer.Answer.{Answer}
use Rattle.strobe.specs.declared.answer.Answer.TheVariants.{Done, KeyFlag, NoOperation, NotTheLast, CutMac, TooLong, NoLevel, NotASession, MacUnequal, BadSaved, ShortBuffer}
use Rattle.strobe.specs.declared.opening.Open.{Open}
use Rattle.strobe.specs.declared.duplex.State.{State}
use Rattle.strobe.specs.declared.flags.Operation.{Operation}
use Rattle.strobe.specs.declared.flags.Operation.TheVariants.{Ratchet, RecvMac, Unknown}
use Rattle.strobe.specs.declared.session.Outcome.{Outcome}
use Rattle.strobe.specs.declared.flags.Flags.{Flags}
use Rattle.strobe.specs.declared.level.Level.{Level}
use Rattle.strobe.specs.declared.level.Level.TheVariants.{B128, B256}
use Rattle.strobe.specs.declared.session.Session.{Session}
use Rattle.strobe.proofs.Data.{Ordered, out-kept, after_zeros}
use Rattle.strobe.proofs.Twenty.{takers_keep, takers_no_mac, changers_no_mac, macs_are, ratchets_are}

pub rate_small : (l : Level) → rate_of l ≤ 166
rate_small B128 = lit≤ tt
rate_small B256 = lit≤ tt

cond_bit : (i : Bool) → cond i 1 0 ≤ 1
cond_bit true = omega arith
cond_bit false = omega arith

cond_no_bit : (i : Bool) → cond i 0 1 ≤ 1
cond_no_bit true = omega arith
cond_no_bit false = omega arith

pub disagrees-bit : (dir : Direction) (i : Bool) → disagrees dir i ≤ 1
disagrees-bit Neither i = cond_bit i
disagrees-bit Sender i = cond_bit i
disagrees-bit Receiver i = cond_no_bit i

-- ---- a session that passed the tests may be worked on

well : (w : Bool) (n : ℕ) → cond (not w) 8 n ≡ 0 → w ≡ true
well true n e = refl
well false n e = absurd (omega arith)

module _ (rate : ℕ) (s : Strobe) where
  pub well_ordered : well_formed rate s ≡ true → Ordered rate s.duplex
  unfolding well_formed
  well_ordered e =
      let rest = and_right (ltb s.duplex.pos rate) _ e in
      record {
        below = ltb-true _ _ (and_left (ltb s.duplex.pos rate) (leb s.duplex.begin s.duplex.pos && known_last s.last) e);
        begun = leb-true _ _ (and_left (leb s.duplex.begin s.duplex.pos) (known_last s.last) rest);
      }

  pub well_known : well_formed rate s ≡ true → known_last s.last ≡ true
  unfolding well_formed
  well_known e = and_right (leb s.duplex.begin s.duplex.pos) _ (and_right (ltb s.duplex.pos rate) _ e)

  pub ordered_well : Ordered rate s.duplex → known_last s.last ≡ true → well_formed rate s ≡ true
  unfolding well_formed
  ordered_well h e = rw (lt-ltb s.duplex.pos rate h.below, le-leb s.duplex.begin s.duplex.pos h.begun, e)

pub passed : (s : Session) (f : Flags) (more : Bool) (n : ℕ) (t : Answer) → number t ≡ refusal (rate_of s.level) (seen s) f more n → t ≡ Done
    → (s.pos < rate_of s.level) × (s.begin ≤ s.pos)
unfolding refusal
passed s f more n t e d = let o = well_ordered (rate_of s.level) (seen s) (well _ _ (sym e ∙ ap number d)) in (o.below, o.begun)

-- ---- the outcome of a call

number_zero : (a : Answer) → number a ≡ 0 → a ≡ Done
number_zero Done e = refl
number_zero KeyFlag e = absurd (omega arith)
number_zero NoOperation e = absurd (omega arith)
number_zero NotTheLast e = absurd (omega arith)
number_zero CutMac e = absurd (omega arith)
number_zero TooLong e = absurd (omega arith)
number_zero NoLevel e = absurd (omega arith)
number_zero NotASession e = absurd (omega arith)
number_zero MacUnequal e = absurd (omega arith)
number_zero BadSaved e = absurd (omega arith)
number_zero ShortBuffer e = absurd (omega arith)

-- a refusal changes nothing
pub settled_not : (sp : Sponge) (n : ℕ) (s : Strobe) (f : Flags) (more : Bool) (bs : List ℕ) → (n ≡ 0 → ⊥)
    → settled sp n s f more bs ≡ record { answer = n; strobe = s; lent = bs }
unfolding settled
settled_not sp zero s f more bs h = absurd (h refl)
settled_not sp (suc n) s f more bs h = refl

module _ (s : Session) (f : Flags) (more : Bool) (bs : List ℕ) where
  pub refused : (a : Answer) → (a ≡ Done → ⊥) → number a ≡ refusal (rate_of s.level) (seen s) f more (length bs)
      → Calls s f more bs (record { session = s; answer = a }) bs
  unfolding call
  refused a h e =
      let u = settled_not (sponge_of s.level) (number a) (seen s) f more bs (λ z. h (number_zero a z)) in
      record { outcome = record { answer = rw (← e, u); session = rw (← e, u) }; lent = rw (← e, u) }

-- only a received MAC is judged
pub verdict-done : (sp : Sponge) (o : Operation) (d : Duplex) (bs : List ℕ) → is_recv_mac o ≡ false → 0 ≡ verdict sp o d bs
unfolding verdict
verdict-done sp o d bs e = rw e

pub verdict_mac : (sp : Sponge) (o : Operation) (d : Duplex) (bs : List ℕ) (n : ℕ) → o ≡ RecvMac
    → n ≡ cond (same (met sp overwriting d bs) bs) 0 9 → n ≡ verdict sp o d bs
unfolding verdict
verdict_mac sp o d bs n e h = rw e (h ∙ go (same (met sp overwriting d bs) bs))
  where
    go : (t : Bool) → cond {A = ℕ} t 0 9 ≡ cond (not t) 9 0
    go true = refl
    go false = refl

-- the work of an operation that keeps the lent bytes
pub feeding : (r : Rule) (st : State) (bs : List ℕ) (st' : State) → ((x b : ℕ) → r.buffer x b ≡ b) → Fed r st bs st' → Ran r st bs st' bs
feeding r st bs st' keep h = record { fed = h; lent = sym (out-kept (sponge st.rate) r (duplex_of st) bs keep) }

-- a work that keeps the rate keeps it in the call that it had
pub kept_rate : {W : Type 0} (g : Mut W (MutBor State × Unit {0}) (Answer × (MutBor State × Unit {0}))) {w w' : W} {a : Answer} {y y' : MutBor State}
    → KeepsRate g → Called g w (y, tt) (a, (y', tt)) w' → y'.now.rate ≡ y.now.rate
kept_rate g {w} {w'} {a} {y} {y'} h k = h w y.now a w' y'.now (record { shown = y; shows = refl; left = y'; called = k; leaves = refl })

-- a call over its work: what `operated` gives, and what the call then is
module _ {W : Type 0} (g : Mut W (MutBor State × Unit {0}) (Answer × (MutBor State × Unit {0}))) (s : Session) (f : Flags) (more : Bool) (w : W) where
  pub refused_work : (n : ℕ) (a : Answer) → (a ≡ Done → ⊥) → number a ≡ refusal (rate_of s.level) (seen s) f more n
      → Operates g s f more n w (record { session = s; answer = a }) w
  refused_work n a h e = record { settled = go (refusal (rate_of s.level) (seen s) f more n) e }
    where
      go : (k : ℕ) → number a ≡ k → Settles g k s f more w (record { session = s; answer = a }) w
      go zero e = absurd (h (number_zero a e))
      go (suc k) e = (e, refl, refl)

  pub done_work : (n : ℕ) (t : Answer) → number t ≡ refusal (rate_of s.level) (seen s) f more n → t ≡ Done
      → (b : Open) → strobe_of b ≡ seen s → b.level ≡ s.level
      → (o : Open) → strobe_of o ≡ opened (sponge_of b.level) (strobe_of b) f more → o.level ≡ b.level
      → {a : Answer} {w' : W} {y y' : MutBor State} → y.now ≡ o.state → Called g w (y, tt) (a, (y', tt)) w'
      → Operates g s f more n w (record { session = held o.level (record { duplex = duplex_of y'.now; direction = o.direction; last = o.last }); answer = a }) w'
  done_work n t et ed b eb lb o eo lo {y = y} {y' = y'} ey k =
      let go = sym et ∙ ap number ed in
      let l = lo ∙ lb in
      record {
        settled = rw go
            (record {
              begun = o;
              strobe = rw (lb, eb) at eo;
              level = l;
              left = y'.now;
              called = record { shown = y; shows = ey; left = y'; called = k; leaves = refl };
              session = ap (λ (v : Level). held v (record { duplex = duplex_of y'.now; direction = o.direction; last = o.last })) l;
            });
      }

  module _ (bs bs' : List ℕ) (r : Outcome) (w' : W)
      (ran : (o : State) (a : Answer) (st : State) → CalledAtMut g w o a w' st → Ran (rule_of (operation f)) o bs st bs')
      (judged : (o : State) (a : Answer) (st : State) → CalledAtMut g w o a w' st → number a ≡ verdict (sponge o.rate) (operation f) (duplex_of o) bs) where
    worked_on : refusal (rate_of s.level) (seen s) f more (length bs) ≡ 0 → Worked g s f more w r w' → Calls s f more bs r bs'
    unfolding call settled worked
    worked_on go k =
        let o = k.begun in
        let e = k.strobe in
        let rt : o.state.rate ≡ rate_of s.level = o.rated ∙ ap rate_of k.level in
        let m = ran o.state r.answer k.left k.called in
        let fed = rw rt at m.fed.duplex in
        record {
          outcome = record {
            answer = rw (go, ← e) (rw rt at (judged o.state r.answer k.left k.called));
            session = rw (go, ← e) (k.session ∙ ap (λ (d : Duplex). held s.level (record { duplex = d; direction = o.direction; last = o.last })) fed);
          };
          lent = rw (go, ← e) (rw rt at m.lent);
        }

    operated : (w' ≡ w → bs' ≡ bs) → (n : ℕ) → length bs ≡ n → Operates g s f more n w r w' → Calls s f more bs r bs'
    operated kept n l h = go (refusal (rate_of s.level) (seen s) f more (length bs)) refl (rw l h.settled)
      where
        go : (n : ℕ) → refusal (rate_of s.level) (seen s) f more (length bs) ≡ n → Settles g n s f more w r w' → Calls s f more bs r bs'
        go zero e h = worked_on e h
        go (suc n) e h =
            subst (λ (v : Session). Calls s f more bs (record { session = v; answer = r.answer }) bs') (sym h.1)
            (subst (Calls s f more bs (record { session = s; answer = r.answer })) (sym (kept h.2))
            (refused s f more bs r.answer (λ d. let z : ◌≡◌ {A = ℕ} 0 (suc n) = sym (ap number d) ∙ h.0 in omega arith) (h.0 ∙ sym e)))

  -- the four kinds of work
  module _ (r : Outcome) (w' : W) where
    pub changed : (bs bs' : List ℕ) → Operates g s f more (length bs) w r w' → among changers f ≡ true → (w' ≡ w → bs' ≡ bs)
        → ((o : State) (a : Answer) (st : State) → CalledAtMut g w o a w' st → Ran (rule_of (operation f)) o bs st bs')
        → ((o : State) (a : Answer) (st : State) → CalledAtMut g w o a w' st → a ≡ Done)
        → Calls s f more bs r bs'
    changed bs bs' h m kept ran done =
        operated bs bs' r w' ran (λ o a st k. ap number (done o a st k) ∙ verdict-done _ _ _ _ (changers_no_mac f m)) kept _ refl h

    pub took : (bs : List ℕ) → Operates g s f more (length bs) w r w' → among takers f ≡ true
        → ((o : State) (a : Answer) (st : State) → CalledAtMut g w o a w' st → Fed (rule_of (operation f)) o bs st)
        → ((o : State) (a : Answer) (st : State) → CalledAtMut g w o a w' st → a ≡ Done)
        → Calls s f more bs r bs
    took bs h m fed done =
        operated bs bs r w' (λ o a st k. feeding _ _ _ _ (takers_keep f m) (fed o a st k))
        (λ o a st k. ap number (done o a st k) ∙ verdict-done _ _ _ _ (takers_no_mac f m)) (λ e. refl) _ refl h

    pub judged : (bs : List ℕ) → Operates g s f more (length bs) w r w' → among macs f ≡ true
        → ((o : State) (a : Answer) (st : State) → CalledAtMut g w o a w' st → Fed overwriting o bs st)
        → ((o : State) (a : Answer) (st : State) → CalledAtMut g w o a w' st → number a ≡ cond (same (met (sponge o.rate) overwriting (duplex_of o) bs) bs) 0 9)
        → Calls s f more bs r bs
    judged bs h m fed is =
        operated bs bs r w' (λ o a st k. rw (macs_are f m) (feeding overwriting o bs st (λ x b. refl) (fed o a st k)))
        (λ o a st k. verdict_mac _ _ _ _ _ (macs_are f m) (is o a st k)) (λ e. refl) _ refl h

    pub zeroed : (n : ℕ) → Operates g s f more n w r w' → among ratchets f ≡ true
        → ((o : State) (a : Answer) (st : State) → CalledAtMut g w o a w' st → Fed zeroing o (replicate n 0) st)
        → ((o : State) (a : Answer) (st : State) → CalledAtMut g w o a w' st → a ≡ Done)
        → Calls s f more (replicate n 0) r (replicate n 0)
    zeroed n h m fed done =
        operated (replicate n 0) (replicate n 0) r w' (λ o a st k. rw (ratchets_are f m) (feeding zeroing o (replicate n 0) st (λ x b. refl) (fed o a st k)))
        (λ o a st k. ap number (done o a st k) ∙ verdict-done _ _ _ _ (ap is_recv_mac (ratchets_are f m))) (λ e. refl) n (length-replicate n 0) h

-- a ratchet looks at no byte
pub ratchet_any : (s : Session) (f : Flags) (more : Bool) (bs : List ℕ) (r : Outcome) → operation f ≡ Ratchet
    → Calls s f more (replicate (length bs) 0) r (replicate (length bs) 0) → Calls s f more bs r bs
unfolding call settled worked verdict
ratchet_any s f more bs r e h =
    go (refusal (rate_of s.level) (seen s) f more (length bs)) (rw (length-replicate {A = ℕ} (length bs) 0) at h.outcome)
  where
    go : (n : ℕ) → Is (let c = settled (sponge_of s.level) n (seen s) f more (replicate (length bs) 0) in given c.answer (held s.level c.strobe)) r
        → Comes s.level (settled (sponge_of s.level) n (seen s) f more bs) r bs
    go zero h = rw e (record { outcome = rw (e, after_zeros) at h; lent = sym (out-kept _ zeroing _ bs (λ x b. refl)) })
    go (suc n) h = record { outcome = h; lent = refl }

-- a byte that is none of the twenty is refused
pub unknown_refused : (rate : ℕ) (s : Strobe) (f : Flags) (more : Bool) (n : ℕ) → operation f ≡ Unknown → refusal rate s f more n ≡ 0 → ⊥
unfolding refusal
unknown_refused rate s f more n e h = go (well_formed rate s) (has f K) (rw e at h)
  where
    go : (w k : Bool) → cond {A = ℕ} (not w) 8 (cond k 1 2) ≡ 0 → ⊥
    go true true h = omega arith
    go true false h = omega arith
    go false k h = omega arith

-- ---- creation

-- the protocol name of a fresh session is never refused
pub fresh-done : (l : Level) (name : List ℕ) → (call (sponge_of l) (unnamed (sponge_of l)) META_AD false name).answer ≡ 0
unfolding call settled worked verdict refusal well_formed unnamed operation operation_of
fresh-done B128 name = refl
fresh-done B256 name = refl

pub named : (l : Level) (u : Session) (name : List ℕ) (r : Outcome) → u ≡ held l (unnamed (sponge_of l)) → Calls u META_AD false name r name
    → Is (fresh_at l name) r
unfolding fresh
named l u name r e h =
    let g = rw e at h.outcome in
    record { answer = g.answer ∙ fresh-done l name; session = g.session }
