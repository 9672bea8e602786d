-- A call in pieces, as its loop takes it: what is done, and what is left to do from here, is the whole. Assumes nothing.
use Prim.Native.Nat.{ℕ, zero, suc, ◌+◌, ◌-◌, ◌≤◌, ◌<◌}
use mathlib.Core.Path.{◌≡◌, refl, sym, ap, ◌∙◌}
use mathlib.Core.List.{List, [], ◌++◌, append_assoc, append-nil}
use mathlib.Core.Bool.{Bool, true, false, cond}
use lib.Dec.{eqb, leb}
use lib.ListN.{length, take, drop, length-append, length-drop, drop_of_length-le}
use lib.Seq.{length-take-le, take_at, drop_at, take_all}
use borrow.Author.Tests.{le-leb, lt-leb, leb-true, leb-false, eqb-false}
use native.Mathlib.Omega.{arith}
use Rattle.strobe.specs.Answer.{refuses}
use Rattle.strobe.specs.Duplex.{Sponge}
use Rattle.strobe.specs.Flags.{operation, rule_of}
use Rattle.strobe.specs.Pieces.{followed, piece_size, in_pieces, call_in_pieces}
use Rattle.strobe.specs.Session.{held, Comes}
use Rattle.strobe.specs.Strobe.{Strobe, Effect, opened, refusal, worked, settled, call}
use Rattle.strobe.specs.declared.flags.Flags.{Flags}
use Rattle.strobe.specs.declared.level.Level.{Level}
use Rattle.strobe.specs.declared.session.Outcome.{Outcome}
use Rattle.strobe.proofs.Data.{out-length}

-- a call gives back as many bytes as it was lent
pub call_length : (sp : Sponge) (s : Strobe) (f : Flags) (more : Bool) (bs : List ℕ) → length (call sp s f more bs).lent ≡ length bs
unfolding call settled worked
call_length sp s f more bs = go (refusal sp.rate s f more (length bs))
  where
    go : (n : ℕ) → length (settled sp n s f more bs).lent ≡ length bs
    go zero = out-length sp (rule_of (operation f)) (opened sp s f more).duplex bs
    go (suc n) = refl

module _ (sp : Sponge) (f : Flags) (size : ℕ) where
  -- the last piece
  pub last_piece : (n : ℕ) (s : Strobe) (more : Bool) (bs : List ℕ) → length bs ≤ size → in_pieces sp n s f more size bs ≡ call sp s f more bs
  unfolding in_pieces
  last_piece zero s more bs h = refl
  last_piece (suc n) s more bs h = rw (le-leb (length bs) size h)

  -- another piece comes first
  pub first_piece : (n : ℕ) (s : Strobe) (more : Bool) (bs : List ℕ) → size < length bs
      → let first = call sp s f more (take size bs) in
      in_pieces sp (suc n) s f more size bs ≡ followed first (drop size bs) (in_pieces sp n first.strobe f true size (drop size bs))
  unfolding in_pieces
  first_piece n s more bs h = rw (lt-leb (length bs) size h)

  -- once n is enough, one more changes nothing
  pub enough : 0 < size → (n : ℕ) (s : Strobe) (more : Bool) (bs : List ℕ) → length bs ≤ n
      → in_pieces sp n s f more size bs ≡ in_pieces sp (suc n) s f more size bs
  enough z zero s more bs h = last_piece 0 s more bs (omega arith) ∙ sym (last_piece 1 s more bs (omega arith))
  enough z (suc n) s more bs h =
      go (leb (length bs) size) refl
      (λ k. enough z n (call sp s f more (take size bs)).strobe true (drop size bs) (rw (length-drop size bs) (omega arith)))
    where
      go : (t : Bool) → leb (length bs) size ≡ t
          → (size < length bs → let s' = (call sp s f more (take size bs)).strobe in in_pieces sp n s' f true size (drop size bs) ≡ in_pieces sp (suc n) s' f true size (drop size bs))
          → in_pieces sp (suc n) s f more size bs ≡ in_pieces sp (suc (suc n)) s f more size bs
      go true e ih =
          let l : length bs ≤ size = leb-true _ _ e in
          last_piece (suc n) s more bs l ∙ sym (last_piece (suc (suc n)) s more bs l)
      go false e ih =
          let l : size < length bs = leb-false _ _ e in
          first_piece n s more bs l
          ∙ ap (followed (call sp s f more (take size bs)) (drop size bs)) (ih l)
          ∙ sym (first_piece (suc n) s more bs l)

  -- the same with as many pieces to come
  pub unrolled : 0 < size → (n : ℕ) (s : Strobe) (more : Bool) (bs : List ℕ) → size < length bs → length bs ≤ n
      → let first = call sp s f more (take size bs) in
      in_pieces sp n s f more size bs ≡ followed first (drop size bs) (in_pieces sp n first.strobe f true size (drop size bs))
  unrolled z zero s more bs h k = absurd (omega arith)
  unrolled z (suc n) s more bs h k =
      first_piece n s more bs h
      ∙ ap (followed (call sp s f more (take size bs)) (drop size bs)) (enough z n _ true (drop size bs) (rw (length-drop size bs) (omega arith)))

-- a loop that goes on has pieces of some size
some_size : (size n m : ℕ) → piece_size size n < m → m ≤ n → 0 < piece_size size n
some_size size n m h k = go (eqb size 0) refl h
  where
    go : (t : Bool) → eqb size 0 ≡ t → cond t n size < m → 0 < cond t n size
    go true e h = absurd (omega arith)
    go false e h = let z : size ≡ 0 → ⊥ = eqb-false _ _ e in omega arith

-- the same of what the code holds
pub cut_size : (size n step m : ℕ) → step ≡ piece_size size n → step < m → m ≤ n → 0 < step
cut_size size n step m e h k = rw e (some_size size n m (rw e at h) k)

-- ---- the loop

-- what holds at its head, a bytes done
pub record Cut (sp : Sponge) (f : Flags) (size : ℕ) (s₀ : Strobe) (more : Bool) (buf₀ : List ℕ) (s : Strobe) (on : Bool) (buf : List ℕ) (a : ℕ) : Type 0 where
  pub within : a ≤ length buf
  pub long : length buf ≡ length buf₀
  pub answer : (in_pieces sp (length buf₀) s f on size (drop a buf)).answer ≡ (in_pieces sp (length buf₀) s₀ f more size buf₀).answer
  pub strobe : (in_pieces sp (length buf₀) s f on size (drop a buf)).strobe ≡ (in_pieces sp (length buf₀) s₀ f more size buf₀).strobe
  pub lent : take a buf ++ (in_pieces sp (length buf₀) s f on size (drop a buf)).lent ≡ (in_pieces sp (length buf₀) s₀ f more size buf₀).lent

-- an effect, behind bytes that are done, is the whole
pub record Whole (sp : Sponge) (f : Flags) (size : ℕ) (s₀ : Strobe) (more : Bool) (buf₀ : List ℕ) (e : Effect) (buf' : List ℕ) : Type 0 where
  pub answer : e.answer ≡ (in_pieces sp (length buf₀) s₀ f more size buf₀).answer
  pub strobe : e.strobe ≡ (in_pieces sp (length buf₀) s₀ f more size buf₀).strobe
  pub lent : buf' ≡ (in_pieces sp (length buf₀) s₀ f more size buf₀).lent

module _ (sp : Sponge) (f : Flags) (size : ℕ) (s₀ : Strobe) (more : Bool) (buf₀ : List ℕ) where
  pub cut_start : Cut sp f size s₀ more buf₀ s₀ more buf₀ 0
  cut_start = record { within = omega arith; long = refl; answer = refl; strobe = refl; lent = refl }

  module _ (s : Strobe) (on : Bool) (buf : List ℕ) (a : ℕ) (g : Cut sp f size s₀ more buf₀ s on buf a) where
    -- what the first of the pieces to come makes of the whole
    first_of : 0 < size → size < length buf - a
        → let first = call sp s f on (take size (drop a buf)) in
        in_pieces sp (length buf₀) s f on size (drop a buf)
        ≡ followed first (drop size (drop a buf)) (in_pieces sp (length buf₀) first.strobe f true size (drop size (drop a buf)))
    first_of z h =
        unrolled sp f size z (length buf₀) s on (drop a buf) (rw (length-drop a buf) h) (rw (length-drop a buf) (omega (arith, g.long)))

    pub cut_turn : 0 < size → size < length buf - a → (k : ℕ) → k ≡ size
        → (n : ℕ) → n ≡ (call sp s f on (take k (drop a buf))).answer → (t : Bool) → t ≡ refuses n → t ≡ false
        → (s' : Strobe) → s' ≡ (call sp s f on (take k (drop a buf))).strobe
        → (ys : List ℕ) → ys ≡ (call sp s f on (take k (drop a buf))).lent
        → (buf' : List ℕ) → buf' ≡ take a buf ++ (ys ++ drop k (drop a buf))
        → Cut sp f size s₀ more buf₀ s' true buf' (a + size)
    cut_turn z h k ek n en t et went s' es ys ey buf' eb =
        record {
          within = omega (arith, all);
          long = all ∙ g.long;
          answer = rw (rest, es') (rw (whole, went') at g.answer);
          strobe = rw (rest, es') (rw (whole, went') at g.strobe);
          lent = rw (done, rest, es', append_assoc, ey') (rw (whole, went') at g.lent);
        }
      where
        first : Effect
        first = call sp s f on (take size (drop a buf))

        tl : List ℕ
        tl = drop size (drop a buf)

        whole : in_pieces sp (length buf₀) s f on size (drop a buf) ≡ followed first tl (in_pieces sp (length buf₀) first.strobe f true size tl)
        whole = first_of z h

        went' : refuses first.answer ≡ false
        went' = rw ek at (ap refuses (sym en) ∙ sym et ∙ went)

        es' : s' ≡ first.strobe
        es' = rw ek at es

        ey' : ys ≡ first.lent
        ey' = rw ek at ey

        ys_long : length ys ≡ size
        ys_long = rw (ey', call_length sp s f on (take size (drop a buf))) (length-take-le size (drop a buf) (rw (length-drop a buf) (omega arith)))

        two : buf' ≡ (take a buf ++ ys) ++ tl
        two = rw ek at eb ∙ sym (append_assoc (take a buf) ys tl)

        head : length (take a buf ++ ys) ≡ a + size
        head = rw (length-append (take a buf) ys, length-take-le a buf g.within, ys_long)

        rest : drop (a + size) buf' ≡ tl
        rest = rw two (drop_at (take a buf ++ ys) tl (a + size) head)

        done : take (a + size) buf' ≡ take a buf ++ ys
        done = rw two (take_at (take a buf ++ ys) tl (a + size) head)

        all : length buf' ≡ length buf
        all = rw (two, length-append (take a buf ++ ys) tl, head, length-drop size (drop a buf), length-drop a buf) (omega arith)

    pub cut_refused : 0 < size → size < length buf - a → (k : ℕ) → k ≡ size
        → (n : ℕ) → n ≡ (call sp s f on (take k (drop a buf))).answer → (t : Bool) → t ≡ refuses n → t ≡ true
        → (ys : List ℕ) → ys ≡ (call sp s f on (take k (drop a buf))).lent
        → Whole sp f size s₀ more buf₀ (call sp s f on (take k (drop a buf))) (take a buf ++ (ys ++ drop k (drop a buf)))
    cut_refused z h k ek n en t et ended ys ey =
        rw ek
        (let ended' : refuses (call sp s f on (take size (drop a buf))).answer ≡ true = rw ek at (ap refuses (sym en) ∙ sym et ∙ ended) in
        let ey' : ys ≡ (call sp s f on (take size (drop a buf))).lent = rw ek at ey in
        let whole = first_of z h in
        record {
          answer = rw (whole, ended') at g.answer;
          strobe = rw (whole, ended') at g.strobe;
          lent = rw ey' (rw (whole, ended') at g.lent);
        })

    pub cut_last : length buf - a ≤ size → (k : ℕ) → k ≡ length buf - a
        → (ys : List ℕ) → ys ≡ (call sp s f on (take k (drop a buf))).lent
        → Whole sp f size s₀ more buf₀ (call sp s f on (take k (drop a buf))) (take a buf ++ (ys ++ drop k (drop a buf)))
    cut_last h k ek ys ey =
        let left : length (drop a buf) ≤ size = rw (length-drop a buf) h in
        let size-k : length (drop a buf) ≤ k = rw (length-drop a buf) (omega arith) in
        let last = last_piece sp f size (length buf₀) s on (drop a buf) left in
        let all : take k (drop a buf) ≡ drop a buf = take_all k (drop a buf) size-k in
        let none : drop k (drop a buf) ≡ [] = drop_of_length-le (drop a buf) {i = k} size-k in
        record {
          answer = rw all (rw last at g.answer);
          strobe = rw all (rw last at g.strobe);
          lent = rw (none, append-nil, ey, all) (rw last at g.lent);
        }

-- ---- the code's outcome

-- what the last of the pieces gives is the whole call's
pub comes_whole : (l : Level) (sp : Sponge) (f : Flags) (step size : ℕ) (s₀ : Strobe) (more : Bool) (buf₀ : List ℕ) (e : Effect) (r : Outcome) (ys buf' : List ℕ)
    → step ≡ piece_size size (length buf₀) → Comes l e r ys → Whole sp f step s₀ more buf₀ e buf'
    → Comes l (call_in_pieces sp s₀ f more size buf₀) r buf'
unfolding call_in_pieces
comes_whole l sp f step size s₀ more buf₀ e r ys buf' es h w =
    let w' : Whole sp f (piece_size size (length buf₀)) s₀ more buf₀ e buf' = rw es at w in
    record {
      outcome = record { answer = h.outcome.answer ∙ w'.answer; session = h.outcome.session ∙ ap (held l) w'.strobe };
      lent = w'.lent;
    }
