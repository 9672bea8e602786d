-- A run's joined operations are those of the definition, each in one piece, whatever its cuts, its refused calls and its reloads. Assumes nothing.
use Prim.Native.Nat.{ℕ, zero, suc}
use mathlib.Core.Path.{◌≡◌, refl, sym, ap, ap₂, ◌∙◌, subst}
use mathlib.Core.List.{List, [], ◌∷◌, ◌++◌}
use mathlib.Core.Bool.{Bool, true, false, not, cond, ◌&&◌}
use lib.ListN.{length}
use borrow.Author.Tests.{eqb-true, not-false}
use Rattle.strobe.proofs.Accepted.{Passed, passed_of, refusal-refuses, call-done}
use Rattle.strobe.proofs.Calls.{verdict-done}
use Rattle.strobe.proofs.Data.{after_append, out_append, out-kept}
use Rattle.strobe.specs.Answer.{refuses}
use Rattle.strobe.specs.Duplex.{Sponge, Duplex, out, met, same}
use Rattle.strobe.specs.Flags.{META_AD, operation_of, operation, is_recv_mac, absorbing, rule_of}
use Rattle.strobe.specs.Runs.{Call, effect}
use Rattle.strobe.specs.Strobe.{Strobe, Effect, opened, is_last, refusal, verdict, worked, settled, call, unnamed, fresh}
use Rattle.strobe.specs.declared.flags.Flags.{Flags}
use Rattle.strobe.specs.declared.flags.Operation.{Operation}
use Rattle.replay.specs.History.{Act, ask, reload, Entry, entry, ends, log, struck, Joined, begun, carried_on, joined, naming, operations}
use Rattle.replay.specs.Reload.{Keeps}
use Rattle.replay.specs.Usable.{Sound, Usable}
use Rattle.replay.specs.Whole.{OneOfTwenty, whole, Right, Course}
use Rattle.replay.proofs.Usable.{call_usable, reload_usable, unnamed_usable, fresh_usable}

-- ---- the answer of work that is done

module _ (sp : Sponge) where
  -- 0 or 9
  pub worked_stays : (s : Strobe) (o : Operation) (bs : List ℕ) → refuses (worked sp s o bs).answer ≡ false
  unfolding worked verdict
  worked_stays s o bs = go (is_recv_mac o && not (same (met sp (rule_of o) s.duplex bs) bs))
    where
      go : (t : Bool) → refuses (cond t 9 0) ≡ false
      go true = refl
      go false = refl

  -- ---- the operation under way from s₀ on, and the session that it has come to

  record Under (s₀ : Strobe) (o : Joined) (s : Strobe) : Type 0 where
    right : Right sp s₀ o
    duplex : s.duplex ≡ (whole sp s₀ o).strobe.duplex
    direction : s.direction ≡ (whole sp s₀ o).strobe.direction
    usable : Usable sp s
    last : (f : Flags) → is_last s.last f ≡ true → f ≡ o.flags

  -- the bytes of a further piece
  on_with : (s₀ : Strobe) (o : Joined) (s : Strobe) (bs : List ℕ) → Under s₀ o s → is_recv_mac (operation o.flags) ≡ false
      → let w = worked sp s (operation o.flags) bs in
      Usable sp w.strobe → Under s₀ (carried_on o (entry (record { flags = o.flags; more = true; bytes = bs }) w)) w.strobe
  unfolding worked
  on_with s₀ o s bs u nm usable =
      let op = operation o.flags in
      let d = (opened sp s₀ o.flags false).duplex in
      let zero-so-far : o.answer ≡ 0 = u.right.answer ∙ sym (verdict-done sp op d o.bytes nm) in
      record {
        right = record {
          one_of_twenty = u.right.one_of_twenty;
          lent =
              ap₂ (λ (xs : List ℕ) (e : Duplex). xs ++ out sp (rule_of op) e bs) u.right.lent u.duplex
              ∙ sym (out_append sp (rule_of op) d o.bytes bs);
          answer = rw zero-so-far (sym (verdict-done sp op s.duplex bs nm) ∙ verdict-done sp op d (o.bytes ++ bs) nm);
        };
        duplex = rw u.duplex (sym (after_append sp (rule_of op) d o.bytes bs));
        direction = u.direction;
        usable = usable;
        last = u.last;
      }

  -- an accepted call with `more` on carries the operation on
  under_more : (s₀ : Strobe) (o : Joined) (s : Strobe) (f : Flags) (bs : List ℕ) → Under s₀ o s → Passed sp.rate s f true (length bs)
      → let w = worked sp (opened sp s f true) (operation f) bs in
      Usable sp w.strobe → Under s₀ (carried_on o (entry (record { flags = f; more = true; bytes = bs }) w)) w.strobe
  unfolding opened
  under_more s₀ o s f bs u p =
      let same_flags : f ≡ o.flags = u.last f (not-false (is_last s.last f) p.same_last) in
      subst
      (λ (g : Flags). is_recv_mac (operation g) ≡ false → Usable sp (worked sp s (operation g) bs).strobe
      → Under s₀ (carried_on o (entry (record { flags = g; more = true; bytes = bs }) (worked sp s (operation g) bs))) (worked sp s (operation g) bs).strobe)
      (sym same_flags)
      (on_with s₀ o s bs u)
      p.not_cut

  -- one with `more` off begins the next
  under_next : (s : Strobe) (f : Flags) (bs : List ℕ) → OneOfTwenty f
      → let w = worked sp (opened sp s f false) (operation f) bs in
      Usable sp w.strobe → Under s (begun (entry (record { flags = f; more = false; bytes = bs }) w)) w.strobe
  unfolding worked opened
  under_next s f bs k usable =
      record {
        right = record { one_of_twenty = k; lent = refl; answer = refl };
        duplex = refl;
        direction = refl;
        usable = usable;
        last = λ g e. let z : f.0 ≡ g.0 = eqb-true f.0 g.0 e in ap (λ (n : ℕ). record { 0 = n }) (sym z);
      }

  -- ---- where a course begins, only the duplex and the direction count

  whole_from : (s t : Strobe) (o : Joined) → t.duplex ≡ s.duplex → t.direction ≡ s.direction → whole sp t o ≡ whole sp s o
  unfolding opened
  whole_from s t o d dir = rw (d, dir)

  course_from : (s t : Strobe) → t.duplex ≡ s.duplex → t.direction ≡ s.direction → (os : List Joined) (end : Strobe)
      → Course sp s os end → Course sp t os end
  course_from s t d dir [] end c = (c.0 ∙ sym d, c.1 ∙ sym dir)
  course_from s t d dir (o ∷ os) end c =
      let e : whole sp s o ≡ whole sp t o = sym (whole_from s t o d dir) in (
        record {
          one_of_twenty = c.0.one_of_twenty;
          lent = c.0.lent ∙ ap (λ (x : Effect). x.lent) e;
          answer = c.0.answer ∙ ap (λ (x : Effect). x.answer) e;
        },
        subst (λ (x : Effect). Course sp x.strobe os end) e c.1,
      )

-- ---- a run from an operation under way

module _ {Edition : Type 0} (sp : Sponge) (sound : Sound sp) (reloaded : Edition → Strobe → Strobe)
    (keeps : (e : Edition) → Keeps sp (reloaded e)) where
  -- the statement, at the operation under way and the rest of the run
  abbrev Goes : List (Act Edition) → Strobe → Joined → Strobe → Type 0
  Goes acts s₀ o s = Course sp s₀ (joined o (struck (log sp reloaded s acts))) (ends sp reloaded s acts)

  -- the same one call further; t says whether it is struck out
  abbrev Next : List (Act Edition) → Strobe → Joined → Call → Effect → Bool → Type 0
  Next acts s₀ o c e t =
      let rest = struck (log sp reloaded e.strobe acts) in
      Course sp s₀ (joined o (cond t rest (entry c e ∷ rest))) (ends sp reloaded e.strobe acts)

  module _ (acts : List (Act Edition)) (ih : (s₀ : Strobe) (o : Joined) (s : Strobe) → Under sp s₀ o s → Goes acts s₀ o s)
      (s₀ : Strobe) (o : Joined) (s : Strobe) (u : Under sp s₀ o s) where
    -- a call that is done, by whether it has `more` on
    done_goes : (f : Flags) (more : Bool) (bs : List ℕ) → Passed sp.rate s f more (length bs)
        → let w = worked sp (opened sp s f more) (operation f) bs in
        Usable sp w.strobe → Next acts s₀ o (record { flags = f; more = more; bytes = bs }) w false
    unfolding joined
    done_goes f true bs p usable =
        ih s₀ _ (worked sp (opened sp s f true) (operation f) bs).strobe (under_more sp s₀ o s f bs u p usable)
    done_goes f false bs p usable =
        let w = worked sp (opened sp s f false) (operation f) bs in
        let e : Entry = entry (record { flags = f; more = false; bytes = bs }) w in (
          u.right,
          course_from sp s (whole sp s₀ o).strobe (sym u.duplex) (sym u.direction) (joined (begun e) (struck (log sp reloaded w.strobe acts)))
              (ends sp reloaded w.strobe acts) (ih s (begun e) w.strobe (under_next sp s f bs p.one_of_twenty usable)),
        )

    asked : (c : Call) (n : ℕ) → refusal sp.rate s c.flags c.more (length c.bytes) ≡ n
        → Next acts s₀ o c (effect sp s c) (refuses (effect sp s c).answer)
    unfolding call settled
    asked c zero e =
        let w = worked sp (opened sp s c.flags c.more) (operation c.flags) c.bytes in
        let d = call-done sp s c.flags c.more c.bytes e in
        let usable : Usable sp w.strobe = rw d at (call_usable sp sound s c u.usable) in
        rw (d, worked_stays sp (opened sp s c.flags c.more) (operation c.flags) c.bytes)
        (done_goes c.flags c.more c.bytes (passed_of sp.rate s c.flags c.more (length c.bytes) e) usable)
    asked c (suc n) e = rw (e, refusal-refuses sp.rate s c.flags c.more (length c.bytes) n e) (ih s₀ o s u)

  goes : (acts : List (Act Edition)) (s₀ : Strobe) (o : Joined) (s : Strobe) → Under sp s₀ o s → Goes acts s₀ o s
  unfolding ends log struck joined
  goes [] s₀ o s u = (u.right, (u.duplex, u.direction))
  goes (reload e ∷ acts) s₀ o s u =
      let k = keeps e s u.usable in
      goes acts s₀ o (reloaded e s)
      (record {
        right = u.right;
        duplex = k.duplex ∙ u.duplex;
        direction = k.direction ∙ u.direction;
        usable = reload_usable sp s (reloaded e s) u.usable k;
        last = λ f h. u.last f (k.last f h);
      })
  goes (ask c ∷ acts) s₀ o s u = asked acts (goes acts) s₀ o s u c (refusal sp.rate s c.flags c.more (length c.bytes)) refl

-- ---- a run from a fresh session

module _ (sp : Sponge) (sound : Sound sp) where
  name_passes : (name : List ℕ) → refusal sp.rate (unnamed sp) META_AD false (length name) ≡ 0
  unfolding refusal operation operation_of
  name_passes name = rw (unnamed_usable sp sound).well

  -- a fresh session stands behind its name
  fresh_under : (name : List ℕ) → Under sp (unnamed sp) (naming name) (fresh sp name)
  unfolding fresh operation operation_of worked verdict
  fresh_under name =
      let s = unnamed sp in
      let w = worked sp (opened sp s META_AD false) (operation META_AD) name in
      let d : call sp s META_AD false name ≡ w = call-done sp s META_AD false name (name_passes name) in
      let usable : Usable sp w.strobe = subst (λ (e : Effect). Usable sp e.strobe) d (fresh_usable sp sound name) in
      let u : Under sp s (begun (entry (record { flags = META_AD; more = false; bytes = name }) w)) w.strobe =
      under_next sp s META_AD name refl usable in
      let same : w.lent ≡ name = out-kept sp absorbing (opened sp s META_AD false).duplex name (λ x b. refl) in
      subst (λ (e : Effect). Under sp s (naming name) e.strobe) (sym d)
      (subst (λ (bs : List ℕ). Under sp s (record { flags = META_AD; bytes = name; lent = bs; answer = w.answer }) w.strobe) same u)

-- every operation's bytes and answer are those of the definition on its joined bytes
pub course : {Edition : Type 0} (sp : Sponge) → Sound sp → (reloaded : Edition → Strobe → Strobe) → ((e : Edition) → Keeps sp (reloaded e))
    → (name : List ℕ) (acts : List (Act Edition))
    → Course sp (unnamed sp) (operations name (log sp reloaded (fresh sp name) acts)) (ends sp reloaded (fresh sp name) acts)
unfolding operations
course sp sound reloaded keeps name acts = goes sp sound reloaded keeps acts (unnamed sp) (naming name) (fresh sp name) (fresh_under sp sound name)
