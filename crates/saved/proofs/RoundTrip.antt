-- A load gives back the session that was saved, whole, and a save the form that was loaded; edition 1 gives it back but for its last operation.
-- Assumes nothing.
-- The code's type `[u8; 200]` gives the length of a state; in the definitions a state is any list, so the theorems ask for it.
use Prim.Native.Nat.{ℕ, ◌≤◌, ◌<◌}
use mathlib.Core.Path.{◌≡◌, refl, sym, ap, ◌∙◌}
use mathlib.Core.List.{List, [], ◌∷◌, ◌++◌, append-nil}
use mathlib.Core.Bool.{Bool, true, false}
use mathlib.Core.Logic.{◌↔◌}
use lib.ListN.{length, take, drop, length-append, length-drop, take-append-drop, drop_of_length-le}
use lib.Seq.{length-take-le, take_all, drop-cons, drop-drop, take_at, drop_at, get_or_at}
use borrow.Author.Tests.{eq-eqb, lt-ltb, le-ltb, le-leb}
use native.Mathlib.Omega.{arith}
use Rattle.strobe.proofs.Calls.{well_ordered, well_known, ordered_well}
use Rattle.strobe.specs.Answer.{done}
use Rattle.strobe.specs.Session.{rate_of, seen, Given, given}
use Rattle.strobe.specs.Strobe.{known_last, well_formed}
use Rattle.strobe.specs.declared.last.Last.{Last}
use Rattle.strobe.specs.declared.session.Session.{Session}
use Rattle.saved.specs.Saved.{Edition, edition1, edition2, number_of, size_of, newest, level_byte, direction_byte, no_last, last_byte, tail, form}
use Rattle.saved.specs.Saved.{byte_at, is_level, is_direction, level_of, last_of, is_numbered, is_edition, fits, session_in, loaded_with, last_in, loaded}
use Rattle.saved.specs.Saved.{with_last, kept_by, saving}
use Rattle.saved.proofs.Bytes.{level_byte-is_level, level_of-byte, level_byte_of, last_of-byte, last_byte_of}
use Rattle.saved.proofs.Bytes.{direction_byte-is_direction, direction_of-byte, direction_byte_of}
use Rattle.saved.proofs.Forms.{size_least, edition_length, loaded_in, fitting, fitting_loaded}

-- ---- a form of a session loads

form_size : (e : Edition) (s : Session) → length s.state ≡ 200 → length (form e s) ≡ size_of e
unfolding form
form_size edition1 s h = omega (arith, h, length-append s.state [])
form_size edition2 s h = omega (arith, h, length-append s.state (last_byte s.last ∷ []))

of_its_edition : (e : Edition) (s : Session) → length s.state ≡ 200 → is_edition e (form e s) ≡ true
unfolding is_numbered form
of_its_edition e s h = rw (eq-eqb _ (size_of e) (form_size e s h), eq-eqb (number_of e) (number_of e) refl)

-- whatever stands in front and behind
session_back : (s : Session) (number : ℕ) (rest : List ℕ) (last : ℕ) → length s.state ≡ 200 → well_formed (rate_of s.level) (seen s) ≡ true
    → known_last (last_of last) ≡ true
    → loaded_with (number ∷ level_byte s.level ∷ s.pos ∷ s.begin ∷ direction_byte s.direction ∷ (s.state ++ rest)) last
    ≡ given done (with_last s (last_of last))
unfolding loaded_with fits session_in
session_back s number rest last n w k =
    let o = well_ordered (rate_of s.level) (seen s) w in
    rw (
      level_byte-is_level s.level,
      level_of-byte s.level,
      lt-ltb s.pos (rate_of s.level) o.below,
      le-leb s.begin s.pos o.begun,
      direction_byte-is_direction s.direction,
      direction_of-byte s.direction,
      k,
      take_at s.state rest 200 n,
    )

pub load_of_form : (e : Edition) (s : Session) → length s.state ≡ 200 → well_formed (rate_of s.level) (seen s) ≡ true
    → loaded (form e s) ≡ given done (kept_by e s)
unfolding form
load_of_form edition1 s n w = loaded_in edition1 (form edition1 s) (of_its_edition edition1 s n) ∙ session_back s 1 [] no_last n w refl
load_of_form edition2 s n w =
    let k = well_known (rate_of s.level) (seen s) w in
    let back = last_of-byte s.last k in
    let behind : last_in edition2 (form edition2 s) ≡ last_byte s.last = get_or_at s.state (last_byte s.last) [] 0 200 n in
    loaded_in edition2 (form edition2 s) (of_its_edition edition2 s n)
    ∙ ap (loaded_with (form edition2 s)) behind
    ∙ session_back s 2 (last_byte s.last ∷ []) (last_byte s.last) n w (ap known_last back ∙ k)
    ∙ ap (λ (l : Last). given done (with_last s l)) back

-- the session itself
pub load_of_save : (s : Session) → length s.state ≡ 200 → well_formed (rate_of s.level) (seen s) ≡ true → loaded (form newest s) ≡ given done s
load_of_save = load_of_form newest

-- whatever else the buffer holds: the front is the form, the rest stays
pub saved_front : (s : Session) (bs : List ℕ) → well_formed (rate_of s.level) (seen s) ≡ true → size_of newest ≤ length bs → length s.state ≡ 200
    → ((saving s bs).answer ≡ done) × (take (size_of newest) (saving s bs).lent ≡ form newest s)
    × (drop (size_of newest) (saving s bs).lent ≡ drop (size_of newest) bs)
unfolding saving
saved_front s bs w h e =
    let n = form_size newest s e in
    let rest = drop (size_of newest) bs in
    rw (w, le-ltb (length bs) (size_of newest) h)
    (refl, take_at (form newest s) rest (size_of newest) n, drop_at (form newest s) rest (size_of newest) n)

pub saved_front_loads : (s : Session) (bs : List ℕ) → well_formed (rate_of s.level) (seen s) ≡ true → size_of newest ≤ length bs
    → length s.state ≡ 200 → loaded (take (size_of newest) (saving s bs).lent) ≡ given done s
saved_front_loads s bs w h e = ap loaded (saved_front s bs w h e).1 ∙ load_of_save s e w

-- ---- what a load has seen of the bytes

record Fitting (e : Edition) (bs : List ℕ) : Type 0 where
  long : length bs ≡ size_of e
  first : byte_at bs 0 ≡ number_of e
  level : is_level (byte_at bs 1) ≡ true
  below : byte_at bs 2 < rate_of (level_of (byte_at bs 1))
  begun : byte_at bs 3 ≤ byte_at bs 2
  direction : is_direction (byte_at bs 4) ≡ true
  last : known_last (last_of (last_in e bs)) ≡ true
  session : loaded bs ≡ given done (session_in bs (last_in e bs))

done-fits : (bs : List ℕ) (last : ℕ) → (loaded_with bs last).answer ≡ done → fitting bs last ≡ true
unfolding loaded_with
done-fits bs last e = grind arith

seen_of : (e : Edition) (bs : List ℕ) → is_edition e bs ≡ true → (loaded bs).answer ≡ done → Fitting e bs
unfolding is_numbered fits
seen_of e bs here d =
    let is = loaded_in e bs here in
    let there = done-fits bs (last_in e bs) (sym (ap (λ (g : Given). g.answer) is) ∙ d) in
    record {
      long = edition_length e bs here;
      first = grind arith;
      level = grind arith;
      below = grind arith;
      begun = grind arith;
      direction = grind arith;
      last = grind arith;
      session = is ∙ fitting_loaded bs (last_in e bs) there;
    }

-- a load that is done was of an edition
edition_of : (bs : List ℕ) → (loaded bs).answer ≡ done → (e : Edition) × (is_edition e bs ≡ true)
unfolding loaded
edition_of bs d = go (is_edition edition2 bs) refl (is_edition edition1 bs) refl
  where
    go : (t : Bool) → is_edition edition2 bs ≡ t → (u : Bool) → is_edition edition1 bs ≡ u → (e : Edition) × (is_edition e bs ≡ true)
    go true h u i = (edition2, h)
    go false h true i = (edition1, i)
    go false h false i = absurd (grind arith)

-- ---- what was loaded saves as the same bytes

five_and_rest : (bs : List ℕ) → 5 ≤ length bs → byte_at bs 0 ∷ byte_at bs 1 ∷ byte_at bs 2 ∷ byte_at bs 3 ∷ byte_at bs 4 ∷ drop 5 bs ≡ bs
five_and_rest bs h =
    sym
    (drop-cons bs 0 0 (omega arith)
    ∙ ap (λ (l : List ℕ). byte_at bs 0 ∷ l) (drop-cons bs 1 0 (omega arith))
    ∙ ap (λ (l : List ℕ). byte_at bs 0 ∷ byte_at bs 1 ∷ l) (drop-cons bs 2 0 (omega arith))
    ∙ ap (λ (l : List ℕ). byte_at bs 0 ∷ byte_at bs 1 ∷ byte_at bs 2 ∷ l) (drop-cons bs 3 0 (omega arith))
    ∙ ap (λ (l : List ℕ). byte_at bs 0 ∷ byte_at bs 1 ∷ byte_at bs 2 ∷ byte_at bs 3 ∷ l) (drop-cons bs 4 0 h))

-- the state, and what an edition has behind it
state_and_tail : (e : Edition) (bs : List ℕ) → length bs ≡ size_of e → take 200 (drop 5 bs) ++ tail e (session_in bs (last_in e bs)) ≡ drop 5 bs
unfolding session_in
state_and_tail edition1 bs n = append-nil (take 200 (drop 5 bs)) ∙ take_all 200 (drop 5 bs) (omega (arith, length-drop 5 bs))
state_and_tail edition2 bs n =
    let behind : drop 205 bs ≡ byte_at bs 205 ∷ [] =
    drop-cons bs 205 0 (omega arith) ∙ ap (λ (l : List ℕ). byte_at bs 205 ∷ l) (drop_of_length-le bs {i = 206} (omega arith)) in
    ap (λ (b : ℕ). take 200 (drop 5 bs) ++ b ∷ []) (last_byte_of (byte_at bs 205))
    ∙ ap (λ (l : List ℕ). take 200 (drop 5 bs) ++ l) (sym (drop-drop 200 5 bs ∙ behind))
    ∙ take-append-drop 200 (drop 5 bs)

pub form_of_load : (e : Edition) (bs : List ℕ) → is_edition e bs ≡ true → (loaded bs).answer ≡ done → form e (loaded bs).session ≡ bs
unfolding form session_in
form_of_load e bs h d =
    let f = seen_of e bs h d in
    rw (f.session, level_byte_of (byte_at bs 1) f.level, direction_byte_of (byte_at bs 4) f.direction, state_and_tail e bs f.long, sym f.first)
    (five_and_rest bs (omega (arith, f.long, size_least e)))

old_form_newest : (bs : List ℕ) → is_edition edition1 bs ≡ true → (loaded bs).answer ≡ done
    → form newest (loaded bs).session ≡ number_of newest ∷ (drop 1 bs ++ no_last ∷ [])
unfolding form session_in
old_form_newest bs h d =
    let f = seen_of edition1 bs h d in
    let state = take_all 200 (drop 5 bs) (omega (arith, length-drop 5 bs, f.long)) in
    rw (f.session, level_byte_of (byte_at bs 1) f.level, direction_byte_of (byte_at bs 4) f.direction, state)
    (ap (λ (l : List ℕ). number_of newest ∷ (drop 1 l ++ no_last ∷ [])) (five_and_rest bs (omega (arith, f.long))))

-- a form of an edition is the front of what a save writes, but for its number
pub old_from_new : (e : Edition) (s : Session) → length s.state ≡ 200
    → form e s ≡ number_of e ∷ drop 1 (take (size_of e) (form newest s))
unfolding form
old_from_new edition1 s n =
    ap (λ (l : List ℕ). number_of edition1 ∷ level_byte s.level ∷ s.pos ∷ s.begin ∷ direction_byte s.direction ∷ l)
    (append-nil s.state ∙ sym (take_at s.state (last_byte s.last ∷ []) 200 n))
old_from_new edition2 s n =
    let long : length (form newest s) ≤ size_of newest = omega (arith, form_size newest s n) in
    sym (ap (λ (l : List ℕ). number_of newest ∷ drop 1 l) (take_all (size_of newest) (form newest s) long))

-- ---- a session that was loaded

pub loaded_well : (bs : List ℕ) → (loaded bs).answer ≡ done → well_formed (rate_of (loaded bs).session.level) (seen (loaded bs).session) ≡ true
unfolding session_in
loaded_well bs d =
    let e = edition_of bs d in
    let f = seen_of e.0 bs e.1 d in
    rw f.session
    (ordered_well (rate_of (level_of (byte_at bs 1))) (seen (session_in bs (last_in e.0 bs))) (record { below = f.below; begun = f.begun }) f.last)

loaded_size : (bs : List ℕ) → (loaded bs).answer ≡ done → length (loaded bs).session.state ≡ 200
unfolding session_in
loaded_size bs d =
    let e = edition_of bs d in
    let f = seen_of e.0 bs e.1 d in
    rw f.session (length-take-le 200 (drop 5 bs) (omega (arith, length-drop 5 bs, f.long, size_least e.0)))

-- a save into a buffer with room, whose rest stays
loaded-saving : (bs buf : List ℕ) → (loaded bs).answer ≡ done → size_of newest ≤ length buf
    → ((saving (loaded bs).session buf).answer ≡ done) × ((saving (loaded bs).session buf).lent ≡ form newest (loaded bs).session ++ drop (size_of newest) buf)
unfolding saving
loaded-saving bs buf d n = rw (loaded_well bs d, le-ltb (length buf) (size_of newest) n) (refl, refl)

-- what was loaded is written back byte for byte
pub save_of_load : (bs buf : List ℕ) → is_edition newest bs ≡ true → (loaded bs).answer ≡ done → size_of newest ≤ length buf
    → ((saving (loaded bs).session buf).answer ≡ done) × ((saving (loaded bs).session buf).lent ≡ bs ++ drop (size_of newest) buf)
save_of_load bs buf h d n =
    let w = loaded-saving bs buf d n in
    (w.0, w.1 ∙ ap (λ (l : List ℕ). l ++ drop (size_of newest) buf) (form_of_load newest bs h d))

-- an old form with another number, and FF behind it
pub old_form_saved : (bs buf : List ℕ) → is_edition edition1 bs ≡ true → (loaded bs).answer ≡ done → size_of newest ≤ length buf
    → ((saving (loaded bs).session buf).answer ≡ done)
    × ((saving (loaded bs).session buf).lent ≡ (number_of newest ∷ (drop 1 bs ++ no_last ∷ [])) ++ drop (size_of newest) buf)
old_form_saved bs buf h d n =
    let w = loaded-saving bs buf d n in
    (w.0, w.1 ∙ ap (λ (l : List ℕ). l ++ drop (size_of newest) buf) (old_form_newest bs h d))

-- ---- the loads that are done are those of the forms of well-formed sessions

pub loads_exactly_the_forms_of : (e : Edition) (bs : List ℕ)
    → ((is_edition e bs ≡ true) × ((loaded bs).answer ≡ done))
    ↔ ((s : Session) × (length s.state ≡ 200) × (well_formed (rate_of s.level) (seen s) ≡ true) × (form e s ≡ bs))
loads_exactly_the_forms_of e bs = (
  λ h. ((loaded bs).session, loaded_size bs h.1, loaded_well bs h.1, form_of_load e bs h.0 h.1),
  λ h. (
    ap (is_edition e) (sym h.3) ∙ of_its_edition e h.0 h.1,
    ap (λ (b : List ℕ). (loaded b).answer) (sym h.3) ∙ ap (λ (g : Given). g.answer) (load_of_form e h.0 h.1 h.2),
  ),
)

-- of either edition
pub loads_exactly_the_forms : (bs : List ℕ)
    → ((loaded bs).answer ≡ done)
    ↔ ((e : Edition) × (s : Session) × (length s.state ≡ 200) × (well_formed (rate_of s.level) (seen s) ≡ true) × (form e s ≡ bs))
loads_exactly_the_forms bs = (
  λ d.
      let e = edition_of bs d in
      let f = (loads_exactly_the_forms_of e.0 bs).0 (e.1, d) in
      (e.0, f.0, f.1, f.2, f.3),
  λ h. ((loads_exactly_the_forms_of h.0 bs).1 (h.1, h.2, h.3, h.4)).1,
)
