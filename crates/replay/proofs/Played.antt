-- Replay of the code: of two runs of the library's functions, what the calls of the first returned and what those of the second must return. Assumes nothing.
use Prim.Native.Nat.{ℕ, ◌≤◌}
use mathlib.Core.Path.{◌≡◌, refl, sym, ap, ap₂, ◌∙◌, subst₂}
use mathlib.Core.List.{List, [], ◌∷◌, ◌++◌}
use mathlib.Core.Bool.{Bool, true, false, not, cond}
use lib.Dec.{ltb}
use lib.ListN.{length, take, drop}
use borrow.Author.Tests.{ltb-false}
use native.Mathlib.Omega.{arith}
use Rattle.saved.proofs.RoundTrip.{load_of_form, saved_front}
use Rattle.saved.specs.Saved.{Edition, edition1, edition2, size_of, newest, form, loaded, kept_by, Saving, saving, Saves}
use Rattle.strobe.specs.Answer.{number, done, not_a_session, short_buffer}
use Rattle.strobe.specs.Runs.{Call, effect}
use Rattle.strobe.specs.Session.{rate_of, sponge_of, seen, held, Given, Is, Calls}
use Rattle.strobe.specs.Strobe.{Strobe, Effect, well_formed, unnamed, fresh}
use Rattle.strobe.specs.declared.answer.Answer.TheVariants.{Done}
use Rattle.strobe.specs.declared.answer.Answer.{Answer}
use Rattle.strobe.specs.declared.level.Level.{Level}
use Rattle.strobe.specs.declared.session.Outcome.{Outcome}
use Rattle.strobe.specs.declared.session.Session.{Session}
use Rattle.replay.specs.Each.{Each}
use Rattle.replay.specs.Editions.{reloaded, holds_last}
use Rattle.replay.specs.History.{Entry, entry, ends, log, operations}
use Rattle.replay.specs.LeftOut.{without_reloads}
use Rattle.replay.specs.Mirror.{Mirrors}
use Rattle.replay.specs.Played.{Step, called, loaded_from, Returns, Played, entries, acts}
use Rattle.replay.specs.Replay.{NoneRejected, Replayed}
use Rattle.replay.specs.Usable.{Usable}
use Rattle.replay.specs.Whole.{Course}
use Rattle.replay.proofs.Replay.{replay_courses}
use Rattle.replay.proofs.Strobe.{sound, reload_keeps, strobe_course, strobe_reload_anywhere}
use Rattle.replay.proofs.Usable.{call_usable, reload_usable, fresh_usable}

-- ---- a save that is done writes the form

save_done : (s : Session) (bs : List ℕ) → (saving s bs).answer ≡ done → (well_formed (rate_of s.level) (seen s) ≡ true) × (size_of newest ≤ length bs)
unfolding saving
save_done s bs e = go (well_formed (rate_of s.level) (seen s)) (ltb (length bs) (size_of newest)) refl e
  where
    go : (w t : Bool) → ltb (length bs) (size_of newest) ≡ t
        → (cond {A = Saving} (not w) (record { answer = not_a_session; lent = bs })
        (cond t (record { answer = short_buffer; lent = bs }) (record { answer = done; lent = form newest s ++ drop (size_of newest) bs }))).answer ≡ done
        → (w ≡ true) × (size_of newest ≤ length bs)
    go false t h e = absurd (omega arith)
    go true true h e = absurd (omega arith)
    go true false h e = (refl, ltb-false _ _ h)

-- so a load of its front is a step
pub save_writes_form : (s : Session) (bs : List ℕ) (a : Answer) (bs' : List ℕ) → length s.state ≡ 200 → Saves s bs a bs' → a ≡ Done
    → take (size_of newest) bs' ≡ form newest s
save_writes_form s bs a bs' long h e =
    let d = save_done s bs (sym h.answer ∙ ap number e) in
    ap (take (size_of newest)) h.lent ∙ (saved_front s bs d.0 d.1 long).1

-- ---- the session behind a step

kept_level : (e : Edition) (s : Session) → (kept_by e s).level ≡ s.level
kept_level edition1 s = refl
kept_level edition2 s = refl

module _ (s : Session) where
  called_next : (c : Call) (r : Outcome) (bs' : List ℕ) → Calls s c.flags c.more c.bytes r bs'
      → (r.session.level ≡ s.level) × (seen r.session ≡ (effect (sponge_of s.level) (seen s) c).strobe)
  called_next c r bs' h = (ap (λ (x : Session). x.level) h.outcome.session, ap seen h.outcome.session)

  loaded_next : (e : Edition) (bs : List ℕ) (r : Outcome) → Usable (sponge_of s.level) (seen s) → bs ≡ form e s → Is (loaded bs) r
      → (r.session.level ≡ s.level) × (seen r.session ≡ reloaded s.level e (seen s))
  unfolding reloaded
  loaded_next e bs r u b h =
      let from-form : r.session ≡ (loaded (form e s)).session = h.session ∙ ap (λ (x : List ℕ). (loaded x).session) b in (
        ap (λ (x : Session). x.level) from-form ∙ ap (λ (g : Given). g.session.level) (load_of_form e s u.sized u.well) ∙ kept_level e s,
        ap seen from-form,
      )

-- ---- a run of the code is a run of the definitions

pub record AsDefined (l : Level) (s : Strobe) (steps : List Step) (t : Session) : Type 0 where
  pub calls : entries steps ≡ log (sponge_of l) (reloaded l) s (acts steps)
  pub session : seen t ≡ ends (sponge_of l) (reloaded l) s (acts steps)
  pub level : t.level ≡ l

pub as_defined : (steps : List Step) (s t : Session) → Usable (sponge_of s.level) (seen s) → Returns s steps t → AsDefined s.level (seen s) steps t
unfolding log ends
as_defined [] s t u h = record { calls = refl; session = ap seen h; level = ap (λ (x : Session). x.level) h }
as_defined (called c r bs' ∷ steps) s t u h =
    let e : Effect = effect (sponge_of s.level) (seen s) c in
    let n = called_next s c r bs' h.0 in
    let usable =
    subst₂ (λ (l : Level) (x : Strobe). Usable (sponge_of l) x) (sym n.0) (sym n.1) (call_usable (sponge_of s.level) (sound s.level) (seen s) c u) in
    let rest : AsDefined s.level e.strobe steps t =
    subst₂ (λ (l : Level) (x : Strobe). AsDefined l x steps t) n.0 n.1 (as_defined steps r.session t usable h.1) in
    let here : ◌≡◌ {A = Entry} (record { call = c; answer = number r.answer; lent = bs' }) (entry c e) =
    ap₂ (λ (m : ℕ) (bs : List ℕ). record { call = c; answer = m; lent = bs }) h.0.outcome.answer h.0.lent in
    record { calls = ap₂ (λ (x : Entry) (xs : List Entry). x ∷ xs) here rest.calls; session = rest.session; level = rest.level }
as_defined (loaded_from e bs r ∷ steps) s t u h =
    let l = s.level in
    let n = loaded_next s e bs r u h.0 h.1 in
    let usable =
    subst₂ (λ (l : Level) (x : Strobe). Usable (sponge_of l) x) (sym n.0) (sym n.1)
    (reload_usable (sponge_of l) (seen s) (reloaded l e (seen s)) u (reload_keeps l e (seen s) u)) in
    let rest : AsDefined l (reloaded l e (seen s)) steps t =
    subst₂ (λ (l : Level) (x : Strobe). AsDefined l x steps t) n.0 n.1 (as_defined steps r.session t usable h.2) in
    record { calls = rest.calls; session = rest.session; level = rest.level }

module _ (l : Level) (name : List ℕ) where
  pub played : (steps : List Step) (t : Session) → Played l name steps t → AsDefined l (fresh (sponge_of l) name) steps t
  played steps t p =
      let level : p.new.session.level ≡ l = ap (λ (x : Session). x.level) p.fresh.session in
      let is-fresh : seen p.new.session ≡ fresh (sponge_of l) name = ap seen p.fresh.session in
      let usable =
      subst₂ (λ (l : Level) (x : Strobe). Usable (sponge_of l) x) (sym level) (sym is-fresh) (fresh_usable (sponge_of l) (sound l) name) in
      subst₂ (λ (l : Level) (x : Strobe). AsDefined l x steps t) level is-fresh (as_defined steps p.new.session t usable p.returns)

  -- ---- replay

  -- what the code returned is the definition's, on the joined bytes of each operation
  pub code_course : (steps : List Step) (t : Session) → Played l name steps t
      → Course (sponge_of l) (unnamed (sponge_of l)) (operations name (entries steps)) (seen t)
  code_course steps t p =
      let d = played steps t p in
      rw (d.calls, d.session) (strobe_course l name (acts steps))

  pub code_replay : (a b : List Step) (s t : Session) → Played l name a s → Played l name b t
      → NoneRejected (entries a) → Each Mirrors (operations name (entries a)) (operations name (entries b))
      → Replayed (sponge_of l) name (entries a) (entries b) (seen s) (seen t)
  code_replay a b s t p q = replay_courses (sponge_of l) name (entries a) (entries b) (seen s) (seen t) (code_course a s p) (code_course b t q)

  -- two runs that differ only in loads of edition 2 returned the same, and the same session
  pub code_reload_anywhere : (a b : List Step) (s t : Session) → Played l name a s → Played l name b t
      → without_reloads holds_last (acts a) ≡ without_reloads holds_last (acts b) → (entries a ≡ entries b) × (s ≡ t)
  code_reload_anywhere a b s t p q h =
      let d = played a s p in
      let e = played b t q in
      let same = strobe_reload_anywhere l name (acts a) (acts b) h in (
        d.calls ∙ same.0 ∙ sym e.calls,
        ap₂ (λ (k : Level) (x : Strobe). held k x) (d.level ∙ sym e.level) (d.session ∙ same.1 ∙ sym e.session),
      )
