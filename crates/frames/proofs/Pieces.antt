-- Whatever pieces an input comes in, and whatever room each has, all that is written is what `journal` says of the whole. Assumes nothing.
use Prim.Native.Nat.{ℕ, ◌-◌, ◌≤◌, ◌<◌}
use mathlib.Core.Path.{◌≡◌, refl, sym, ap, ap₂, subst, ◌∙◌}
use mathlib.Core.List.{List, [], ◌∷◌, ◌++◌, append-nil, append_assoc}
use mathlib.Core.Bool.{Bool, true, false, cond}
use native.Mathlib.Omega.{arith}
use lib.Dec.{eqb, ltb}
use lib.ListN.{length, take, drop, length-append, take-append-drop}
use lib.Seq.{take_at}
use borrow.Author.Tests.{le-ltb, eqb-true}
use Rattle.frames.specs.Hexadecimal.{decode}
use Rattle.frames.specs.Lines.{newline, lines}
use Rattle.frames.specs.Journal.{Reply, reply, replies, journal}
use Rattle.frames.specs.Steps.{Part, Place, Went, nothing, read, begun, start, reply_at, behind, reading, answer_limit, still, onward, stepped, finished, is_ended, place_of, Steps}
use Rattle.frames.specs.Runs.{Ran, ready, piece}
use Rattle.frames.specs.declared.journal.Stage.{Stage}
use Rattle.frames.specs.declared.journal.Stage.TheVariants.{First, Later, Ended}
use Rattle.strobe.specs.declared.session.Session.{Session}
use Rattle.laws.proofs.Bools.{true_not_false}
use Rattle.frames.specs.declared.journal.Journal.{Journal}
use Rattle.frames.specs.declared.journal.Stepped.{Stepped}
use Rattle.frames.proofs.Lines.{plain, plain_none, plain_more, lines-newline, lines_last}
use Rattle.frames.proofs.Parts.{read_text, read_behind, reply-same, read-begun, text_begun}

-- ---- a place within a line

-- the text of the line so far
record Stands (p : Place) (text : List ℕ) : Type 0 where
  pub plainly : plain text ≡ true
  pub part : p.part ≡ read_text nothing text

-- what is still to be written, of what is still to come
abbrev to_come : Place → List ℕ → List ℕ → List ℕ
to_come p text input = replies p.stage p.session (lines (text ++ input))

reply_here : (p : Place) (text : List ℕ) → Stands p text → reply_at p ≡ reply p.stage p.session (decode text)
reply_here p text h =
    ap (λ (q : Part). reply_at (record { stage = p.stage; session = p.session; part = q })) h.part
    ∙ reply-same p.stage p.session text

-- at a newline
come_newline : (p : Place) (text input : List ℕ) → Stands p text → to_come p text (newline ∷ input) ≡ (reply_at p).text ++ to_come (behind (reply_at p)) [] input
unfolding replies
come_newline p text input h =
    ap (replies p.stage p.session) (lines-newline text input h.plainly)
    ∙ ap (λ (r : Reply). r.text ++ replies r.stage r.session (lines input)) (sym (reply_here p text h))

stands_none : (r : Reply) → Stands (behind r) []
unfolding read_text
stands_none r = record { plainly = plain_none; part = refl }

stands_more : (p : Place) (text : List ℕ) (c : ℕ) → Stands p text → eqb c newline ≡ false → Stands (reading p c) (text ++ c ∷ [])
stands_more p text c h e =
    record {
      plainly = plain_more text c h.plainly e;
      part = ap (λ (q : Part). read q c) h.part ∙ sym (read_behind nothing text c);
    }

-- ---- a step

-- the text behind the last newline
unfoldable pub line_so_far : List ℕ → List ℕ → List ℕ
line_so_far text [] = text
line_so_far text (c ∷ input) = cond (eqb c newline) (line_so_far [] input) (line_so_far (text ++ c ∷ []) input)

so_far_through : (text input rest : List ℕ) → line_so_far (line_so_far text input) rest ≡ line_so_far text (input ++ rest)
unfolding line_so_far
so_far_through text [] rest = refl
so_far_through text (c ∷ input) rest = go (eqb c newline) (so_far_through [] input rest) (so_far_through (text ++ c ∷ []) input rest)
  where
    go : (t : Bool) → line_so_far (line_so_far [] input) rest ≡ line_so_far [] (input ++ rest)
        → line_so_far (line_so_far (text ++ c ∷ []) input) rest ≡ line_so_far (text ++ c ∷ []) (input ++ rest)
        → line_so_far (cond t (line_so_far [] input) (line_so_far (text ++ c ∷ []) input)) rest ≡ cond t (line_so_far [] (input ++ rest)) (line_so_far (text ++ c ∷ []) (input ++ rest))
    go true p q = p
    go false p q = q

-- where a step ends, with what it wrote, all is as it was to come
record Keeps (p : Place) (text input : List ℕ) (w : Went) : Type 0 where
  pub so : List ℕ
  pub stands : Stands w.place so
  pub so_far : so ≡ line_so_far text (take w.taken input)
  pub same : (more : List ℕ) → w.output ++ to_come w.place so (drop w.taken input ++ more) ≡ to_come p text (input ++ more)

keeps_still : (p : Place) (text input : List ℕ) → Stands p text → Keeps p text input (still p)
unfolding line_so_far
keeps_still p text input h = record { so = text; stands = h; so_far = refl; same = λ more. refl }

keeps_newline : (p : Place) (text input : List ℕ) (w : Went) → Stands p text → Keeps (behind (reply_at p)) [] input w
    → Keeps p text (newline ∷ input) (onward (reply_at p).text w)
unfolding line_so_far
keeps_newline p text input w h k =
    record {
      so = k.so;
      stands = k.stands;
      so_far = k.so_far;
      same = λ more.
          append_assoc (reply_at p).text w.output (to_come w.place k.so (drop w.taken input ++ more))
          ∙ ap (λ (t : List ℕ). (reply_at p).text ++ t) (k.same more)
          ∙ sym (come_newline p text (input ++ more) h);
    }

keeps_character : (p : Place) (text : List ℕ) (c : ℕ) (input : List ℕ) (w : Went) → eqb c newline ≡ false → Keeps (reading p c) (text ++ c ∷ []) input w → Keeps p text (c ∷ input) (onward [] w)
unfolding line_so_far
keeps_character p text c input w e k =
    record {
      so = k.so;
      stands = k.stands;
      so_far = k.so_far ∙ sym (ap (λ (t : Bool). cond t (line_so_far [] (take w.taken input)) (line_so_far (text ++ c ∷ []) (take w.taken input))) e);
      same = λ more. k.same more ∙ ap (λ (t : List ℕ). replies p.stage p.session (lines t)) (append_assoc text (c ∷ []) (input ++ more));
    }

step_keeps : (p : Place) (text input : List ℕ) (room : ℕ) → Stands p text → Keeps p text input (stepped p input room)
unfolding stepped
step_keeps p text [] room h = keeps_still p text [] h
step_keeps p text (c ∷ input) room h =
    go (ltb room answer_limit) (eqb c newline) refl
    (step_keeps (behind (reply_at p)) [] input (room - length (reply_at p).text) (stands_none (reply_at p)))
    (λ e. step_keeps (reading p c) (text ++ c ∷ []) input room (stands_more p text c h e))
  where
    w : Went
    w = stepped (behind (reply_at p)) input (room - length (reply_at p).text)

    x : Went
    x = stepped (reading p c) input room

    go : (s t : Bool) → eqb c newline ≡ t → Keeps (behind (reply_at p)) [] input w → (eqb c newline ≡ false → Keeps (reading p c) (text ++ c ∷ []) input x)
        → Keeps p text (c ∷ input) (cond s (still p) (cond t (onward (reply_at p).text w) (onward [] x)))
    go true t e k f = keeps_still p text (c ∷ input) h
    go false true e k f = rw (eqb-true c newline e) (keeps_newline p text input w h k)
    go false false e k f = keeps_character p text c input x e (f e)

-- ---- what a caller's loop needs

taken_most : (p : Place) (input : List ℕ) (room : ℕ) → (stepped p input room).taken ≤ length input
unfolding stepped
taken_most p [] room = omega arith
taken_most p (c ∷ input) room =
    go (ltb room answer_limit) (eqb c newline) (taken_most (behind (reply_at p)) input (room - length (reply_at p).text)) (taken_most (reading p c) input room)
  where
    w : Went
    w = stepped (behind (reply_at p)) input (room - length (reply_at p).text)

    x : Went
    x = stepped (reading p c) input room

    go : (s t : Bool) → w.taken ≤ length input → x.taken ≤ length input
        → (cond s (still p) (cond t (onward (reply_at p).text w) (onward [] x))).taken ≤ length (c ∷ input)
    go true t h k = omega arith
    go false true h k = omega arith
    go false false h k = omega arith

-- with room for an answer a step takes at least a byte
step_takes : (p : Place) (input : List ℕ) (room : ℕ) → answer_limit ≤ room → 0 < length input → 0 < (stepped p input room).taken
unfolding stepped
step_takes p [] room enough some = absurd (omega arith)
step_takes p (c ∷ input) room enough some =
    subst (λ (t : Bool). 0 < (cond t (still p) (cond (eqb c newline) w x)).taken) (sym (le-ltb room answer_limit enough)) (go (eqb c newline))
  where
    w : Went
    w = onward (reply_at p).text (stepped (behind (reply_at p)) input (room - length (reply_at p).text))

    x : Went
    x = onward [] (stepped (reading p c) input room)

    go : (t : Bool) → 0 < (cond t w x).taken
    go true = omega arith
    go false = omega arith

-- what was written fits the buffer
pub put_fits : (w : Went) (out : List ℕ) (r : Stepped) (out' : List ℕ) → Steps w out r out' → r.put ≤ length out'
put_fits w out r out' h =
    omega (arith, h.put, ap (length {A = ℕ}) h.lent, length-append w.output (drop (length w.output) out))

module _ (p : Place) (input out : List ℕ) (r : Stepped) (out' : List ℕ) (h : Steps (stepped p input (length out)) out r out') where
  pub taken_fits : r.taken ≤ length input
  taken_fits = omega (arith, h.taken, taken_most p input (length out))

  pub some_taken : answer_limit ≤ length out → 0 < length input → 0 < r.taken
  some_taken enough some = omega (arith, h.taken, step_takes p input (length out) enough some)

-- ---- the end of the input

module _ (p : Place) (room : ℕ) (enough : answer_limit ≤ room) where
  finish_none : p.part ≡ nothing → (finished p room).output ≡ []
  unfolding finished
  finish_none h = ap (λ (q : Part). (cond (begun q) (stepped p (newline ∷ []) room) (still p)).output) h

  finish_line : begun p.part ≡ true → (finished p room).output ≡ (reply_at p).text ++ []
  unfolding finished stepped
  finish_line h =
      ap (λ (t : Bool). (cond t (stepped p (newline ∷ []) room) (still p)).output) h
      ∙ ap (λ (t : Bool). (cond t (still p) (onward (reply_at p).text (still (behind (reply_at p))))).output) (le-ltb room answer_limit enough)

  finish_all : (text : List ℕ) → Stands p text → (finished p room).output ≡ to_come p text []
  unfolding replies lines read_text
  finish_all [] h = finish_none h.part
  finish_all (c ∷ text) h =
      finish_line (ap begun h.part ∙ text_begun (read nothing c) text (read-begun nothing c))
      ∙ ap (λ (r : Reply). r.text ++ []) (reply_here p (c ∷ text) h)
      ∙ sym (ap (λ (t : List ℕ). replies p.stage p.session (lines t)) (append-nil (c ∷ text))
      ∙ ap (replies p.stage p.session) (lines_last c text h.plainly))

-- ---- the code's run

-- what a step wrote is at the start of its buffer
step_wrote : (w : Went) (out : List ℕ) (r : Stepped) (out' : List ℕ) → Steps w out r out' → take r.put out' ≡ w.output
step_wrote w out r out' h =
    ap (take r.put) h.lent ∙ take_at w.output (drop (length w.output) out) r.put (sym h.put)

-- nothing comes after the end
ended_silent : (stage : Stage) (s : Session) → is_ended stage ≡ true → (ls : List (List ℕ)) → replies stage s ls ≡ []
unfolding replies
ended_silent First s h ls = absurd (true_not_false h refl)
ended_silent Later s h ls = absurd (true_not_false h refl)
ended_silent Ended s h [] = refl
ended_silent Ended s h (l ∷ ls) = ended_silent Ended s h ls

-- what was written, and what is still to come, is what was to come at first, whatever more follows
record Written (k : Journal) (written : List ℕ) (p : Place) (text input : List ℕ) : Type 0 where
  so : List ℕ
  stands : Stands (place_of k) so
  so_far : so ≡ line_so_far text input
  same : (more : List ℕ) → written ++ to_come (place_of k) so more ≡ to_come p text (input ++ more)

-- one piece in front of what was written
piece_written : (w : Went) (out : List ℕ) (r : Stepped) (out' : List ℕ) → Steps w out r out'
    → (p : Place) (text input : List ℕ) (step : Keeps p text input w) (rest : List ℕ) (k : Journal) (written : List ℕ)
    → Written k written (place_of r.journal) step.so (drop r.taken input ++ rest)
    → Written k (take r.put out' ++ written) p text (input ++ rest)
piece_written w out r out' s p text input step rest k written next =
    record {
      so = next.so;
      stands = next.stands;
      so_far =
          next.so_far
          ∙ ap₂ (λ (so : List ℕ) (n : ℕ). line_so_far so (drop n input ++ rest)) step.so_far s.taken
          ∙ so_far_through text (take w.taken input) (drop w.taken input ++ rest)
          ∙ ap (line_so_far text) (sym (append_assoc (take w.taken input) (drop w.taken input) rest) ∙ ap (λ (l : List ℕ). l ++ rest) (take-append-drop w.taken input));
      same = λ more.
          append_assoc (take r.put out') written (to_come (place_of k) next.so more)
          ∙ ap₂ (λ (a b : List ℕ). a ++ b) (step_wrote w out r out' s) (next.same more)
          ∙ ap₂ (λ (q : Place) (n : ℕ). w.output ++ to_come q step.so (drop n input ++ rest ++ more)) s.place s.taken
          ∙ ap (λ (l : List ℕ). w.output ++ to_come w.place step.so l) (append_assoc (drop w.taken input) rest more)
          ∙ step.same (rest ++ more)
          ∙ ap (to_come p text) (sym (append_assoc input rest more));
    }

ran-written : {j : Journal} {input : List ℕ} {k : Journal} {written : List ℕ} → Ran j input k written
    → (text : List ℕ) → Stands (place_of j) text → Written k written (place_of j) text input
unfolding line_so_far
ran-written (ready j) text h = record { so = text; stands = h; so_far = refl; same = λ more. refl }
ran-written (piece j input rest out out' r s k written ran) text h =
    let step = step_keeps (place_of j) text input (length out) h in
    piece_written (stepped (place_of j) input (length out)) out r out' s (place_of j) text input step rest k written
    (ran-written ran step.so (rw s.place step.stands))

module _ (j : Journal) (new : place_of j ≡ start) (input : List ℕ) (k : Journal) (written : List ℕ) (ran : Ran j input k written) where
  from_start : Written k written (place_of j) [] input
  unfolding read_text
  from_start = ran-written ran [] (rw new (record { plainly = plain_none; part = refl }))

  -- every way of handing an input over, and of finishing it, writes the journal's output
  pub any_pieces : (out : List ℕ) → answer_limit ≤ length out → (r : Stepped) (out' : List ℕ) → Steps (finished (place_of k) (length out)) out r out'
      → written ++ take r.put out' ≡ journal input
  unfolding journal
  any_pieces out enough r out' last =
      let all = from_start in
      ap (λ (t : List ℕ). written ++ t)
      (step_wrote (finished (place_of k) (length out)) out r out' last ∙ finish_all (place_of k) (length out) enough all.so all.stands)
      ∙ all.same []
      ∙ ap₂ (λ (p : Place) (l : List ℕ). to_come p [] l) new (append-nil input)

  -- a run that has ended has written all, so that no more need be read
  pub ended_early : is_ended k.stage ≡ true → (more : List ℕ) → written ≡ journal (input ++ more)
  unfolding journal
  ended_early h more =
      let all = from_start in
      sym (append-nil written)
      ∙ ap (λ (t : List ℕ). written ++ t) (sym (ended_silent k.stage k.session h (lines (all.so ++ more))))
      ∙ all.same more
      ∙ ap (λ (p : Place). to_come p [] (input ++ more)) new

  -- behind a newline no answer is held back
  pub none_held_back : (front : List ℕ) → input ≡ front ++ newline ∷ [] → written ≡ journal input
  unfolding journal lines replies line_so_far
  none_held_back front e =
      let all = from_start in
      let none : all.so ≡ [] = all.so_far ∙ ap (line_so_far []) e ∙ sym (so_far_through [] front (newline ∷ [])) in
      sym (append-nil written)
      ∙ ap (λ (so : List ℕ). written ++ to_come (place_of k) so []) (sym none)
      ∙ all.same []
      ∙ ap₂ (λ (p : Place) (l : List ℕ). to_come p [] l) new (append-nil input)
