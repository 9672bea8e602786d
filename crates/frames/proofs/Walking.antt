-- A step, line by line: to the newline, or to the end of the input. `Going`: what is done and what is left is the whole. Assumes nothing.
use Prim.Native.Nat.{ℕ, ◌+◌, ◌-◌, ◌≤◌, ◌<◌}
use mathlib.Core.Path.{◌≡◌, refl, sym, ap, ap₂, ◌∙◌}
use mathlib.Core.List.{List, [], ◌∷◌, ◌++◌, append-nil, append_assoc}
use mathlib.Core.Bool.{Bool, true, false, cond}
use native.Mathlib.Omega.{arith}
use lib.Dec.{eqb}
use lib.ListN.{length, take, drop, length-append}
use borrow.Author.Tests.{le-ltb, lt-ltb}
use borrow.Rule.Slice.PartMut.{put_mid}
use Rattle.std.specs.Prelude.{Some, None}
use Rattle.frames.specs.Lines.{newline}
use Rattle.frames.specs.Steps.{Part, Place, Went, read, reply_at, behind, reading, answer_limit, still, onward, stepped, place_of, Steps}
use Rattle.frames.specs.Inside.{Writes, read_all, past}
use Rattle.frames.specs.declared.journal.Journal.{Journal}
use Rattle.frames.proofs.Writing.{joins}

-- ---- one line

-- some of the input taken, and a text written, before the rest
abbrev pub gone : ℕ → List ℕ → Went → Went
gone n text w = record { place = w.place; taken = n + w.taken; output = text ++ w.output }

-- a place with another part of its line, and with the rest of it
abbrev pub within : Place → Part → Place
within p part = record { stage = p.stage; session = p.session; part = part }

abbrev pub read_on : Place → List ℕ → Place
read_on p input = within p (read_all p.part input)

-- what is past a newline is shorter than the input
pub past_shorter : (input rest : List ℕ) → past input ≡ Some rest → length rest < length input
unfolding past
past_shorter [] rest h = absurd (cc)
past_shorter (c ∷ input) rest h = go (eqb c newline) h (past_shorter input rest)
  where
    go : (t : Bool) → cond t (Some input) (past input) ≡ Some rest → (past input ≡ Some rest → length rest < length input) → length rest < length (c ∷ input)
    go true e f = let same : input ≡ rest = cc in omega (arith, ap (length {A = ℕ}) same)
    go false e f = omega (arith, f e)

module _ (room : ℕ) (enough : answer_limit ≤ room) where
  first_step : (p : Place) (c : ℕ) (input : List ℕ) → stepped p (c ∷ input) room
      ≡ cond (eqb c newline) (onward (reply_at p).text (stepped (behind (reply_at p)) input (room - length (reply_at p).text)))
      (onward [] (stepped (reading p c) input room))
  unfolding stepped
  first_step p c input =
      let ended = onward (reply_at p).text (stepped (behind (reply_at p)) input (room - length (reply_at p).text)) in
      ap (λ (t : Bool). cond t (still p) (cond (eqb c newline) ended (onward [] (stepped (reading p c) input room)))) (le-ltb room answer_limit enough)

  -- the line's text and what is behind it
  abbrev line_gone : Place → List ℕ → Went
  line_gone q rest = stepped (behind (reply_at q)) rest (room - length (reply_at q).text)

  pub line_ended : (p : Place) (input rest : List ℕ) → past input ≡ Some rest
      → stepped p input room ≡ gone (length input - length rest) (reply_at (read_on p input)).text (line_gone (read_on p input) rest)
  unfolding past read_all
  line_ended p [] rest h = absurd (cc)
  line_ended p (c ∷ input) rest h = first_step p c input ∙ go (eqb c newline) h (line_ended (reading p c) input rest)
    where
      go : (t : Bool) → cond t (Some input) (past input) ≡ Some rest
          → (past input ≡ Some rest → stepped (reading p c) input room
          ≡ gone (length input - length rest) (reply_at (read_on (reading p c) input)).text (line_gone (read_on (reading p c) input) rest))
          → cond t (onward (reply_at p).text (line_gone p input)) (onward [] (stepped (reading p c) input room))
          ≡ (let q = within p (cond t p.part (read_all (read p.part c) input)) in gone (length (c ∷ input) - length rest) (reply_at q).text (line_gone q rest))
      go true e ih =
          let same : input ≡ rest = cc in
          let w = line_gone p input in
          rw (← same) (ap (λ (n : ℕ). record { place = w.place; taken = n; output = (reply_at p).text ++ w.output }) (omega arith))
      go false e ih =
          let q = read_on (reading p c) input in
          let w = line_gone q rest in
          ap (onward []) (ih e)
          ∙ ap (λ (n : ℕ). record { place = w.place; taken = n; output = (reply_at q).text ++ w.output }) (omega (arith, past_shorter input rest e))

  pub line_open : (p : Place) (input : List ℕ) → past input ≡ None
      → stepped p input room ≡ record { place = read_on p input; taken = length input; output = [] }
  unfolding past read_all stepped
  line_open p [] h = refl
  line_open p (c ∷ input) h = first_step p c input ∙ go (eqb c newline) h (line_open (reading p c) input)
    where
      go : (t : Bool) → cond t (Some input) (past input) ≡ None
          → (past input ≡ None → stepped (reading p c) input room ≡ record { place = read_on (reading p c) input; taken = length input; output = [] })
          → cond t (onward (reply_at p).text (line_gone p input)) (onward [] (stepped (reading p c) input room))
          ≡ record { place = within p (cond t p.part (read_all (read p.part c) input)); taken = length (c ∷ input); output = [] }
      go true e ih = absurd (cc)
      go false e ih = ap (onward []) (ih e)

-- ---- the loop

-- at its head: this written at the start of the buffer, and the rest to do from here
pub record Going (p₀ : Place) (input out₀ : List ℕ) (p : Place) (rest out : List ℕ) (put : ℕ) : Type 0 where
  pub done : List ℕ
  pub lent : Writes done out₀ put out
  pub most : length rest ≤ length input
  pub fits : put ≤ length out₀
  pub whole : stepped p₀ input (length out₀) ≡ gone (length input - length rest) done (stepped p rest (length out₀ - put))

pub going_start : (p : Place) (input out : List ℕ) → Going p input out p input out 0
going_start p input out =
    record {
      done = [];
      lent = record { size = refl; lent = refl };
      most = omega arith;
      fits = omega arith;
      whole = let w = stepped p input (length out) in
          let none : length input - length input ≡ 0 = omega arith in
          let all : length out - 0 ≡ length out = omega arith in
          rw (none, all) (ap (λ (n : ℕ). record { place = w.place; taken = n; output = w.output }) (omega arith));
    }

-- two goings one behind the other
gone_gone : (m n : ℕ) (a b : List ℕ) (w : Went) → gone m a (gone n b w) ≡ gone (m + n) (a ++ b) w
gone_gone m n a b w =
    ap₂ (λ (k : ℕ) (o : List ℕ). record { place = w.place; taken = k; output = o }) (omega arith) (sym (append_assoc a b w.output))

module _ (p₀ : Place) (input out₀ : List ℕ) (p : Place) (rest out : List ℕ) (put : ℕ) (g : Going p₀ input out₀ p rest out put) where
  -- behind a line: its reply is written
  pub going_on : answer_limit ≤ length out₀ - put → (others : List ℕ) → past rest ≡ Some others
      → (q : Place) → q ≡ read_on p rest → (p' : Place) → p' ≡ behind (reply_at q)
      → length out ≡ length out₀ → (n : ℕ) (out' : List ℕ) → length out' ≡ length out₀ - put
      → Writes (reply_at q).text (take (length out - put) (drop put out)) n out'
      → Going p₀ input out₀ p' others (put_mid put (length out - put) out out') (put + n)
  going_on enough others e q k p' b long n out' size w =
      let text = (reply_at q).text in
      let room = length out₀ - put in
      let shorter = past_shorter rest others e in
      let fits : n ≤ room = omega (arith, size, w.size, ap (length {A = ℕ}) w.lent, length-append text (drop (length text) (take (length out - put) (drop put out)))) in
      rw b (record {
        done = g.done ++ text;
        lent = joins g.done out₀ put out g.lent text n out' (omega (arith, g.fits, long)) w;
        most = omega (arith, g.most);
        fits = omega (arith, g.fits);
        whole =
            g.whole
            ∙ ap (gone (length input - length rest) g.done) (line_ended room enough p rest others e)
            ∙ gone_gone (length input - length rest) (length rest - length others) g.done (reply_at (read_on p rest)).text (line_gone room enough (read_on p rest) others)
            ∙ ap (λ (m : ℕ). gone m (g.done ++ (reply_at (read_on p rest)).text) (line_gone room enough (read_on p rest) others)) (omega (arith, g.most))
            ∙ ap (λ (x : Place). gone (length input - length others) (g.done ++ (reply_at x).text) (line_gone room enough x others)) (sym k)
            ∙ ap (λ (m : ℕ). gone (length input - length others) (g.done ++ text) (stepped (behind (reply_at q)) others m)) (omega (arith, w.size));
      })

  -- nothing more is done
  still_here : stepped p rest (length out₀ - put) ≡ still p
      → stepped p₀ input (length out₀) ≡ record { place = p; taken = length input - length rest; output = g.done }
  still_here h =
      let all : length input - length rest + 0 ≡ length input - length rest = omega arith in
      g.whole
      ∙ ap (gone (length input - length rest) g.done) h
      ∙ ap₂ (λ (n : ℕ) (o : List ℕ). record { place = p; taken = n; output = o }) all (append-nil g.done)

  module _ (j : Journal) where
    -- the line goes on past the input
    pub ends_open : answer_limit ≤ length out₀ - put → past rest ≡ None → place_of j ≡ read_on p rest
        → Steps (stepped p₀ input (length out₀)) out₀ (record { journal = j; taken = length input; put = put }) out
    ends_open enough e k =
        let all : length input - length rest + length rest ≡ length input = omega (arith, g.most) in
        rw (
        g.whole
        ∙ ap (gone (length input - length rest) g.done) (line_open (length out₀ - put) enough p rest e)
        ∙ ap₂ (λ (n : ℕ) (o : List ℕ). record { place = read_on p rest; taken = n; output = o }) all (append-nil g.done)
        )
        (record { place = k; taken = refl; put = g.lent.size; lent = g.lent.lent })

    -- nothing is left of the input, or there is no room for another answer
    module _ (here : place_of j ≡ p) (taken : ℕ) (t : taken ≡ length input - length rest) where
      ends_still : stepped p rest (length out₀ - put) ≡ still p → Steps (stepped p₀ input (length out₀)) out₀ (record { journal = j; taken = taken; put = put }) out
      ends_still h = rw (still_here h) (record { place = here; taken = t; put = g.lent.size; lent = g.lent.lent })

      pub ends_taken : length rest ≡ 0 → Steps (stepped p₀ input (length out₀)) out₀ (record { journal = j; taken = taken; put = put }) out
      unfolding stepped
      ends_taken e = ends_still (go rest e)
        where
          go : (l : List ℕ) → length l ≡ 0 → stepped p l (length out₀ - put) ≡ still p
          go [] e = refl
          go (c ∷ l) e = absurd (omega arith)

      pub ends_full : length out₀ - put < answer_limit → Steps (stepped p₀ input (length out₀)) out₀ (record { journal = j; taken = taken; put = put }) out
      unfolding stepped
      ends_full h = ends_still (go rest)
        where
          go : (l : List ℕ) → stepped p l (length out₀ - put) ≡ still p
          go [] = refl
          go (c ∷ l) = rw (lt-ltb (length out₀ - put) answer_limit h)
