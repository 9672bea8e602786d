-- What the byte loops cite: a part within a block, and loops that go from block to block, over any rule. Assumes nothing.
use Prim.Native.Nat.{ℕ, zero, suc, ◌+◌, ◌≤◌, ◌<◌}
use mathlib.Core.Path.{◌≡◌, refl, sym, ◌∙◌}
use mathlib.Core.List.{List, [], ◌∷◌, ◌++◌, append_assoc, append-nil}
use mathlib.Core.Bool.{Bool, true, false, ◌&&◌}
use lib.ListN.{length, replicate, get_or, set, take, drop, length-set, length-append, length-drop, take-append-drop, drop_of_length-le}
use lib.Seq.{length-take-le, take_at, drop_at, drop-cons, take_all, take-suc-set, drop-set-lt}
use lib.Dec.{eqb}
use native.Mathlib.Omega.{arith}
use native.Mathlib.Numerals.{add-one}
use Rattle.strobe.specs.Duplex.{Sponge, Rule, at_pos, placed, close_if_full, step, after, out, met, same}
use Rattle.strobe.specs.Flags.{zeroing}
use Rattle.strobe.specs.Loops.{at, duplex_of, Becomes, Fed, Ran, part, part_out, Parted}
use Rattle.strobe.specs.Session.{sponge}
use Rattle.strobe.specs.declared.duplex.State.{State}
use Rattle.strobe.proofs.Data.{not_full_kept, after_append, out_append, out-length}

-- ---- a part within a block

-- a byte's turn
pub part_turn : (r : Rule) (st : List ℕ) (pos : ℕ) (bs : List ℕ) (j : ℕ) → j < length bs
    → part r st (pos + j) (drop j bs) ≡ part r (set st (pos + j) (r.state (get_or st (pos + j) 0) (get_or bs j 0))) (pos + (j + 1)) (drop (j + 1) bs)
unfolding part
part_turn r st pos bs j h = let k : pos + (j + 1) ≡ pos + j + 1 = omega arith in rw (k, drop-cons bs j 0, add-one j)

-- what holds at the head of a loop that changes the lent bytes, j of them done: what is done, and what is left to do from here, is the whole
pub record Within (r : Rule) (st₀ : List ℕ) (pos : ℕ) (buf₀ : List ℕ) (st : List ℕ) (buf : List ℕ) (j : ℕ) : Type 0 where
  pub state : part r st (pos + j) (drop j buf) ≡ part r st₀ pos buf₀
  pub lent : take j buf ++ part_out r st (pos + j) (drop j buf) ≡ part_out r st₀ pos buf₀

module _ (r : Rule) (st₀ : List ℕ) (pos : ℕ) (buf₀ : List ℕ) where
  pub begins : Within r st₀ pos buf₀ st₀ buf₀ 0
  begins = let e : pos + 0 ≡ pos = omega arith in record { state = rw e; lent = rw e }

  pub goes : (st buf : List ℕ) (j : ℕ) → Within r st₀ pos buf₀ st buf j → j < length buf
      → (st' : List ℕ) → st' ≡ set st (pos + j) (r.state (get_or st (pos + j) 0) (get_or buf j 0))
      → (buf' : List ℕ) → buf' ≡ set buf j (r.buffer (get_or st (pos + j) 0) (get_or buf j 0))
      → Within r st₀ pos buf₀ st' buf' (j + 1)
  unfolding part part_out
  goes st buf j g h st' e buf' e' =
      let k : pos + suc j ≡ pos + j + 1 = omega arith in
      rw (e, e')
      (record {
        state = rw (add-one j, k, drop-set-lt (suc j) buf j (r.buffer (get_or st (pos + j) 0) (get_or buf j 0)) (omega arith)) (rw (drop-cons buf j 0) at g.state);
        lent =
            rw (add-one j, k, drop-set-lt (suc j) buf j (r.buffer (get_or st (pos + j) 0) (get_or buf j 0)) (omega arith), take-suc-set buf j (r.buffer (get_or st (pos + j) 0) (get_or buf j 0)), append_assoc)
            (rw (drop-cons buf j 0) at g.lent);
      })

  pub ends : (st buf : List ℕ) (j : ℕ) → Within r st₀ pos buf₀ st buf j → length buf ≤ j → Parted r st₀ pos buf₀ st buf
  unfolding part part_out
  ends st buf j g h =
      record {
        state = rw (drop_of_length-le buf {i = j} h) at g.state;
        lent = rw (drop_of_length-le buf {i = j} h, take_all j buf h, append-nil) at g.lent;
      }

-- a part of zeros
zeros_part : (st : List ℕ) (pos n : ℕ) → pos + n ≤ length st
    → part zeroing st pos (replicate n 0) ≡ take pos st ++ (replicate n 0 ++ drop n (drop pos st))
unfolding part
zeros_part st pos zero h = sym (take-append-drop pos st)
zeros_part st pos (suc n) h =
    let lt : pos < length st = omega arith in
    rw (zeros_part (set st pos 0) (pos + 1) n (simp length-set (omega arith)), add-one pos, take-suc-set st pos 0, drop-set-lt (suc pos) st pos 0 (omega arith), append_assoc, drop-cons st pos 0)

-- the same where the k bytes from a position on were filled
pub zeroed : (st : List ℕ) (pos n k : ℕ) → k ≡ n → pos + n ≤ length st → (ys : List ℕ) → ys ≡ replicate (length (take k (drop pos st))) 0
    → take pos st ++ (ys ++ drop k (drop pos st)) ≡ part zeroing st pos (replicate n 0)
zeroed st pos n k kn h ys e =
    rw (e, length-take-le k (drop pos st) (rw (length-drop pos st) (omega arith)), kn) (sym (zeros_part st pos n h))

-- ---- a part is the data byte by byte, with one test for a full block at its end

module _ (sp : Sponge) (r : Rule) where
  pub run : (st : List ℕ) (pos begin : ℕ) (bs : List ℕ) → 0 < length bs → pos + length bs ≤ sp.rate
      → after sp r (at st pos begin) bs ≡ close_if_full sp (at (part r st pos bs) (pos + length bs) begin)
  unfolding after part step
  run st pos begin [] z h = elim z [ ]
  run st pos begin (b ∷ []) z h = refl
  run st pos begin (b ∷ c ∷ bs) z h =
      rw (not_full_kept sp (placed r (at st pos begin) b) (λ e. omega arith))
      (rw (run (set st pos (r.state (get_or st pos 0) b)) (pos + 1) begin (c ∷ bs) (omega arith) (omega arith))
      (let e : pos + 1 + suc (length bs) ≡ pos + suc (suc (length bs)) = omega arith in rw e))

  pub run_out : (st : List ℕ) (pos begin : ℕ) (bs : List ℕ) → pos + length bs ≤ sp.rate
      → out sp r (at st pos begin) bs ≡ part_out r st pos bs
  unfolding out part_out step
  run_out st pos begin [] h = refl
  run_out st pos begin (b ∷ []) h = refl
  run_out st pos begin (b ∷ c ∷ bs) h =
      rw (not_full_kept sp (placed r (at st pos begin) b) (λ e. omega arith))
      (rw (run_out (set st pos (r.state (get_or st pos 0) b)) (pos + 1) begin (c ∷ bs) (omega arith)))

-- a part of the block, and the position moved on over it
pub block : (r : Rule) (s : State) (bs : List ℕ) (n : ℕ) → length bs ≡ n → 0 < n → s.pos + n ≤ s.rate
    → (st' : List ℕ) → st' ≡ part r s.bytes s.pos bs
    → (s' : State) → duplex_of s' ≡ close_if_full (sponge s.rate) (at st' (s.pos + n) s.begin) → s'.rate ≡ s.rate
    → Fed r s bs s'
block r s bs n size lt fits st' es s' e same =
    record { duplex = rw (run (sponge s.rate) r s.bytes s.pos s.begin bs (omega (arith, size)) (omega (arith, size)), size, ← es) e; rate = same }

-- ---- a loop over bytes that are only read: what is done, and what is left to do from here, is the whole

pub record Left (r : Rule) (s₀ : State) (bs₀ : List ℕ) (s : State) (bs : List ℕ) : Type 0 where
  pub rate : s.rate ≡ s₀.rate
  pub fed : after (sponge s.rate) r (duplex_of s) bs ≡ after (sponge s₀.rate) r (duplex_of s₀) bs₀

module _ (r : Rule) (s₀ : State) (bs₀ : List ℕ) where
  -- some bytes handled
  pub left_turn : (s : State) (bs xs ys : List ℕ) → bs ≡ xs ++ ys → Left r s₀ bs₀ s bs → (s' : State) → Fed r s xs s' → Left r s₀ bs₀ s' ys
  left_turn s bs xs ys e l s' f =
      record { rate = f.rate ∙ l.rate; fed = rw (f.rate, f.duplex, ← after_append (sponge s.rate) r (duplex_of s) xs ys) (rw e at l.fed) }

  pub left_stop : (s : State) (bs : List ℕ) → length bs ≤ 0 → Left r s₀ bs₀ s bs → Fed r s₀ bs₀ s
  unfolding after
  left_stop s [] h l = record { duplex = l.fed; rate = l.rate }
  left_stop s (b ∷ bs) h l = absurd (omega arith)

-- ---- a loop over a lent buffer, i bytes done: the same, and what is given back so far and from here on is the whole

pub record Going (r : Rule) (s₀ : State) (buf₀ : List ℕ) (s : State) (buf : List ℕ) (i : ℕ) : Type 0 where
  pub within : i ≤ length buf
  pub long : length buf ≡ length buf₀
  pub left : Left r s₀ buf₀ s (drop i buf)
  pub lent : take i buf ++ out (sponge s.rate) r (duplex_of s) (drop i buf) ≡ out (sponge s₀.rate) r (duplex_of s₀) buf₀

module _ (r : Rule) (s₀ : State) (buf₀ : List ℕ) where
  pub start : Going r s₀ buf₀ s₀ buf₀ 0
  start = record { within = omega arith; long = refl; left = record { rate = refl; fed = refl }; lent = refl }

  -- a block's turn: the part of the buffer from i on, n bytes, is done
  pub turn : (s : State) (buf : List ℕ) (i n k : ℕ) → k ≡ n → Going r s₀ buf₀ s buf i → 0 < n → i + n ≤ length buf → s.pos + n ≤ s.rate
      → (st' ys : List ℕ) → Parted r s.bytes s.pos (take k (drop i buf)) st' ys
      → (s' : State) → duplex_of s' ≡ close_if_full (sponge s.rate) (at st' (s.pos + n) s.begin) → s'.rate ≡ s.rate
      → (buf' : List ℕ) → buf' ≡ take i buf ++ (ys ++ drop k (drop i buf))
      → Going r s₀ buf₀ s' buf' (i + n)
  turn s buf i n k kn g lt le fits st' ys p s' ed er buf' eb =
      record {
        within = omega (arith, all);
        long = all ∙ g.long;
        left = rw rest (left_turn r s₀ buf₀ s (drop i buf) bs tl split g.left s' f);
        lent = rw (done, rest, f.rate, f.duplex, append_assoc, ey) (rw (split, out_append (sponge s.rate) r (duplex_of s) bs tl) at g.lent);
      }
    where
      bs : List ℕ
      bs = take k (drop i buf)

      tl : List ℕ
      tl = drop k (drop i buf)

      size : length bs ≡ n
      size = length-take-le k (drop i buf) (rw (length-drop i buf) (omega arith)) ∙ kn

      f : Fed r s bs s'
      f = block r s bs n size lt fits st' p.state s' ed er

      ey : ys ≡ out (sponge s.rate) r (duplex_of s) bs
      ey = p.lent ∙ sym (run_out (sponge s.rate) r s.bytes s.pos s.begin bs (omega (arith, size)))

      split : drop i buf ≡ bs ++ tl
      split = sym (take-append-drop k (drop i buf))

      head : length (take i buf ++ ys) ≡ i + n
      head = rw (length-append (take i buf) ys, length-take-le i buf (omega arith), ey, out-length (sponge s.rate) r (duplex_of s) bs, size)

      two : buf' ≡ (take i buf ++ ys) ++ tl
      two = eb ∙ sym (append_assoc (take i buf) ys tl)

      rest : drop (i + n) buf' ≡ tl
      rest = rw two (drop_at (take i buf ++ ys) tl (i + n) head)

      done : take (i + n) buf' ≡ take i buf ++ ys
      done = rw two (take_at (take i buf ++ ys) tl (i + n) head)

      all : length buf' ≡ length buf
      all = rw (two, length-append (take i buf ++ ys) tl, head, length-drop k (drop i buf), length-drop i buf) (omega arith)

  pub stop : (s : State) (buf : List ℕ) (i : ℕ) → Going r s₀ buf₀ s buf i → length buf ≤ i → Ran r s₀ buf₀ s buf
  unfolding out
  stop s buf i g h =
      record {
        fed = left_stop r s₀ buf₀ s (drop i buf) (rw (length-drop i buf) (omega arith)) g.left;
        lent = rw (drop_of_length-le buf {i = i} h, take_all i buf h, append-nil) at g.lent;
      }

-- ---- the test of a received MAC: what was met so far, and what is left, is the whole

and_assoc : (a b c : Bool) → a && b && c ≡ a && (b && c)
and_assoc true b c = refl
and_assoc false b c = refl

and_true : (a : Bool) → a && true ≡ a
and_true true = refl
and_true false = refl

module _ (r : Rule) (s : State) (buf : List ℕ) (i : ℕ) (so : Bool) (whole : Bool) where
  pub same_turn : i < length buf → so && same (met (sponge s.rate) r (duplex_of s) (drop i buf)) (drop i buf) ≡ whole
      → (s' : State) → Becomes s (step (sponge s.rate) r (duplex_of s) (get_or buf i 0)) s'
      → so && eqb (at_pos (duplex_of s)) (get_or buf i 0) && same (met (sponge s'.rate) r (duplex_of s') (drop (i + 1) buf)) (drop (i + 1) buf) ≡ whole
  unfolding out step
  same_turn h e s' b = rw (and_assoc, b.rate, b.duplex, add-one i) (rw (drop-cons buf i 0) at e)

  pub same_stop : length buf ≤ i → so && same (met (sponge s.rate) r (duplex_of s) (drop i buf)) (drop i buf) ≡ whole → so ≡ whole
  unfolding out
  same_stop h e = rw (drop_of_length-le buf {i = i} h, and_true) at e
