-- Every cut within the limits of one call is accepted call by call, and makes the mirror of every operation. Assumes nothing.
use Prim.Native.Nat.{ℕ}
use mathlib.Core.Path.{◌≡◌, refl, sym, ap, ◌∙◌, subst}
use mathlib.Core.List.{List, [], ◌∷◌, ◌++◌, map, flatten, append_assoc, append-nil}
use mathlib.Core.Bool.{Bool, true, false, not, ◌&&◌}
use lib.ListN.{length}
use native.Mathlib.Omega.{arith}
use Rattle.laws.proofs.Bools.{true_not_false}
use Rattle.strobe.proofs.Accepted.{of_passed, call-done, opened_last}
use Rattle.strobe.specs.Answer.{refuses}
use Rattle.strobe.specs.Duplex.{Sponge}
use Rattle.strobe.specs.Every.{Every}
use Rattle.strobe.specs.Flags.{META_AD, operation_of, operation, is_recv_mac, over_limit}
use Rattle.strobe.specs.Runs.{Call, effect}
use Rattle.strobe.specs.Strobe.{Strobe, Effect, opened, is_last, refusal, worked, unnamed, fresh}
use Rattle.strobe.specs.declared.flags.Flags.{Flags}
use Rattle.replay.specs.Cuts.{Cut, Cuts, calling, mirroring, answering}
use Rattle.replay.specs.Each.{Each}
use Rattle.replay.specs.History.{Act, ask, reload, Entry, entry, log, struck, Joined, begun, carried_on, joined, naming, operations}
use Rattle.replay.specs.Mirror.{mirrored, Lends, Mirrors}
use Rattle.replay.specs.Reload.{Keeps}
use Rattle.replay.specs.Replay.{NoneRefused}
use Rattle.replay.specs.Usable.{Sound, Usable}
use Rattle.replay.specs.Whole.{OneOfTwenty}
use Rattle.replay.proofs.Course.{worked_stays}
use Rattle.replay.proofs.Turned.{known_no_key, turned_known}
use Rattle.replay.proofs.Usable.{call_usable, reload_usable, unnamed_usable}

-- where none is refused none is struck out
none_struck : (es : List Entry) → NoneRefused es → struck es ≡ es
unfolding struck
none_struck [] h = refl
none_struck (e ∷ es) h = rw h.0 (ap (λ (xs : List Entry). e ∷ xs) (none_struck es h.1))

module _ {Edition : Type 0} (sp : Sponge) (sound : Sound sp) (reloaded : Edition → Strobe → Strobe) (keeps : (e : Edition) → Keeps sp (reloaded e)) where
  -- ---- one call

  -- the operation f may be carried on
  record Ready (s : Strobe) (f : Flags) : Type 0 where
    usable : Usable sp s
    last : is_last s.last f ≡ true

  record Fits (s : Strobe) (c : Call) : Type 0 where
    usable : Usable sp s
    one_of_twenty : OneOfTwenty c.flags
    not_cut : c.more && is_recv_mac (operation c.flags) ≡ false
    same_last : c.more && not (is_last s.last c.flags) ≡ false
    within_limit : over_limit (operation c.flags) (length c.bytes) ≡ false

  accepted : (s : Strobe) (c : Call) → Fits s c → (refuses (effect sp s c).answer ≡ false) × Ready (effect sp s c).strobe c.flags
  unfolding worked
  accepted s c h =
      let passes : refusal sp.rate s c.flags c.more (length c.bytes) ≡ 0 =
      of_passed sp.rate s c.flags c.more (length c.bytes)
      (record {
        well = h.usable.well;
        no_key = known_no_key c.flags h.one_of_twenty;
        one_of_twenty = h.one_of_twenty;
        not_cut = h.not_cut;
        same_last = h.same_last;
        within_limit = h.within_limit;
      }) in
      let d = call-done sp s c.flags c.more c.bytes passes in (
        ap (λ (e : Effect). refuses e.answer) d ∙ worked_stays sp (opened sp s c.flags c.more) (operation c.flags) c.bytes,
        record {
          usable = call_usable sp sound s c h.usable;
          last = ap (λ (e : Effect). is_last e.strobe.last c.flags) d ∙ opened_last sp s c.flags c.more h.same_last;
        },
      )

  -- ---- the calls of one operation and of those behind it

  abbrev Within : Flags → List ℕ → Type 0
  Within f bs = over_limit (operation f) (length bs) ≡ false

  -- the calls es carry p on, which is to mirror a, and then mirror os
  abbrev Mirroring : Joined → List Joined → Joined → List Entry → Type 0
  Mirroring a os p es = NoneRefused es × Each Mirrors (a ∷ os) (joined p es)

  module _ (a : Joined) (os : List Joined) (rest : List (Act Edition)) (k : OneOfTwenty (mirrored a.flags))
      (behind : (s : Strobe) (p : Joined) → Usable sp s → Mirrors a p → Mirroring a os p (log sp reloaded s rest)) where
    carry_on : (pieces : List (List ℕ)) (s : Strobe) (p : Joined) → Ready s (mirrored a.flags) → p.flags ≡ mirrored a.flags
        → Lends (operation a.flags) a (p.bytes ++ flatten pieces) → Every (Within (mirrored a.flags)) pieces
        → (is_recv_mac (operation (mirrored a.flags)) ≡ true → pieces ≡ [])
        → Mirroring a os p (log sp reloaded s (map (calling (mirrored a.flags) true) pieces ++ rest))
    unfolding log joined flatten
    carry_on [] s p r f le w u =
        behind s p r.usable (record { flags = f; lends = subst (Lends (operation a.flags) a) (append-nil p.bytes) le })
    carry_on (bs ∷ pieces) s p r f le w u =
        let c : Call = record { flags = mirrored a.flags; more = true; bytes = bs } in
        let fits : Fits s c =
        record {
          usable = r.usable;
          one_of_twenty = k;
          not_cut = whole (is_recv_mac (operation (mirrored a.flags))) refl;
          same_last = ap not r.last;
          within_limit = w.0;
        } in
        let h = accepted s c fits in
        let i = carry_on pieces (effect sp s c).strobe (carried_on p (entry c (effect sp s c))) h.1 f
        (subst (Lends (operation a.flags) a) (sym (append_assoc p.bytes bs (flatten pieces))) le) w.1 (λ e. absurd (nonempty (u e))) in
        ((h.0, i.0), i.1)
      where
        nonempty : bs ∷ pieces ≡ [] → ⊥
        nonempty e = omega (arith, ap length e)

        whole : (t : Bool) → is_recv_mac (operation (mirrored a.flags)) ≡ t → t ≡ false
        whole true e = absurd (nonempty (u e))
        whole false e = refl

  -- what holds of the acts behind reloads, from every usable session, holds with them
  reloads_first : (es : List Edition) (acts : List (Act Edition)) (P : List Entry → Type 0) → ((t : Strobe) → Usable sp t → P (log sp reloaded t acts))
      → (s : Strobe) → Usable sp s → P (log sp reloaded s (map reload es ++ acts))
  unfolding log
  reloads_first [] acts P h s u = h s u
  reloads_first (e ∷ es) acts P h s u = reloads_first es acts P h (reloaded e s) (reload_usable sp s (reloaded e s) u (keeps e s u))

  -- the acts of all the operations, from one under way that mirrors a
  mirrored_all : (os : List Joined) (ks : List (Cut Edition)) (a : Joined) (s : Strobe) (p : Joined) → Usable sp s → Mirrors a p
      → Every (λ (o : Joined). OneOfTwenty o.flags) os → Each Cuts os ks → Mirroring a os p (log sp reloaded s (mirroring os ks))
  unfolding log joined
  mirrored_all [] [] a s p u m kn cu = (tt, (m, tt))
  mirrored_all [] (k ∷ ks) a s p u m kn cu = absurd cu
  mirrored_all (o ∷ os) [] a s p u m kn cu = absurd cu
  mirrored_all (o ∷ os) (k ∷ ks) a s p u m kn cu =
      let f : Flags = mirrored o.flags in
      let c : Call = record { flags = f; more = false; bytes = k.first } in
      let known-mirror = turned_known o.flags kn.0 in
      reloads_first k.reloads (ask c ∷ (map (calling f true) k.others ++ mirroring os ks)) (Mirroring a (o ∷ os) p)
      (λ t ut.
      let h = accepted t c (record { usable = ut; one_of_twenty = known-mirror; not_cut = refl; same_last = refl; within_limit = cu.0.within.0 }) in
      let i =
      carry_on o os (mirroring os ks) known-mirror (λ s p u m. mirrored_all os ks o s p u m kn.1 cu.1) k.others (effect sp t c).strobe
      (begun (entry c (effect sp t c))) h.1 refl cu.0.lends cu.0.within.1 cu.0.uncut in
      ((h.0, i.0), (m, i.1)))
      s u

  -- ---- from a fresh session

  fresh_ready : (name : List ℕ) → Ready (fresh sp name) META_AD
  unfolding fresh operation operation_of
  fresh_ready name =
      (accepted (unnamed sp) (record { flags = META_AD; more = false; bytes = name })
      (record { usable = unnamed_usable sp sound; one_of_twenty = refl; not_cut = refl; same_last = refl; within_limit = refl })).1

  names_within : (pieces : List (List ℕ)) → Every (Within META_AD) pieces
  unfolding operation operation_of
  names_within [] = tt
  names_within (bs ∷ pieces) = (refl, names_within pieces)

  -- the name carried on in any pieces, every operation behind it cut in any way that `Cuts` allows
  pub any_cut : (name : List ℕ) (first : Joined) (pieces : List (List ℕ)) (os : List Joined) (ks : List (Cut Edition))
      → first.flags ≡ META_AD → first.bytes ≡ name ++ flatten pieces
      → Every (λ (o : Joined). OneOfTwenty o.flags) os → Each Cuts os ks
      → let es = log sp reloaded (fresh sp name) (answering pieces os ks) in NoneRefused es × Each Mirrors (first ∷ os) (operations name es)
  unfolding operations operation operation_of
  any_cut name first pieces os ks f b kn cu =
      let named : Joined = record { flags = META_AD; bytes = first.bytes; lent = first.lent; answer = first.answer } in
      let is-first : named ≡ first = ap (λ (g : Flags). record { flags = g; bytes = first.bytes; lent = first.lent; answer = first.answer }) (sym f) in
      let es : List Entry = log sp reloaded (fresh sp name) (answering pieces os ks) in
      let h : Mirroring named os (naming name) es =
      carry_on named os (mirroring os ks) refl (λ s p u m. mirrored_all os ks named s p u m kn cu) pieces (fresh sp name) (naming name) (fresh_ready name) refl
      (sym b) (names_within pieces) (λ e. absurd (true_not_false e refl)) in
      (h.0, subst (λ (o : Joined). Each Mirrors (o ∷ os) (joined (naming name) (struck es))) is-first (rw (none_struck es h.0) h.1))
