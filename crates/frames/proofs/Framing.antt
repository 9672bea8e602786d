-- Laws of frames: what a line asks for, and what an outcome tells. Assumes nothing.
use mathlib.Core.Path.{◌≡◌, refl, sym, ap, ◌∙◌}
use Prim.Native.Nat.{ℕ, ◌+◌, ◌-◌, ◌*◌, ◌≤◌, ◌<◌}
use native.Mathlib.Omega.{arith}
use mathlib.Core.List.{List, [], ◌∷◌, ◌++◌}
use mathlib.Core.Bool.{Bool, true, false, not, cond, ◌&&◌, and-false}
use lib.Dec.{eqb, leb}
use lib.ListN.{length, get_or, replicate, take, drop, length-take, length-drop, take-append-drop}
use lib.Seq.{take_at, drop-append-le}
use borrow.Author.Tests.{le-leb, lt-leb}
use Rattle.std.proofs.lemmas.List.{take_rest}
use Rattle.std.specs.Prelude.{Option, Some, None, is_some, option_copied, ◌⊎◌}
use Rattle.std.specs.Borrow.{Bor}
use Rattle.std.proofs.Common.{inl, inr}
use Rattle.strobe.specs.Flags.{M, RATCHET, META_RATCHET, flags, has, operation}
use Rattle.strobe.specs.Loops.{ratchets}
use Rattle.strobe.specs.Session.{Calls}
use Rattle.strobe.specs.declared.flags.Flags.{Flags}
use Rattle.strobe.specs.declared.flags.Operation.{Operation}
use Rattle.strobe.specs.declared.flags.Operation.TheVariants.{Ad, Ratchet, Key, Prf, SendClr, RecvClr, SendMac, RecvMac, SendEnc, RecvEnc, Unknown}
use Rattle.strobe.specs.declared.session.Outcome.{Outcome}
use Rattle.strobe.specs.declared.session.Session.{Session}
use Rattle.strobe.proofs.Twenty.{at_each, handled_as}
use Rattle.frames.specs.Hexadecimal.{misshapen, bytes}
use Rattle.frames.specs.Frames.{limit, big_endian, count_of, counted, buffer_of, refused, calling, framed}
use Rattle.frames.specs.Steps.{line_limit, part_of, read_of}
use Rattle.frames.specs.declared.line.Line.{Line}
use Rattle.frames.proofs.Hexadecimal.{not_bytes, bytes_one}
use Rattle.frames.specs.Inside.{said, counted_by, unshown}

pub four_bytes_count : (payload : List ℕ) → length payload ≡ 4
    → count_of payload ≡ get_or payload 0 0 * 16777216 + get_or payload 1 0 * 65536 + get_or payload 2 0 * 256 + get_or payload 3 0
unfolding big_endian
four_bytes_count (a ∷ b ∷ c ∷ d ∷ []) h = omega arith
four_bytes_count [] h = absurd (omega arith)
four_bytes_count (a ∷ []) h = absurd (omega arith)
four_bytes_count (a ∷ b ∷ []) h = absurd (omega arith)
four_bytes_count (a ∷ b ∷ c ∷ []) h = absurd (omega arith)
four_bytes_count (a ∷ b ∷ c ∷ d ∷ e ∷ payload) h = absurd (omega arith)

-- ---- what a line asks for

module _ (payload : List ℕ) where
  pub no_count : counted_by payload ≡ None → (small : Bool) → counted payload small ≡ misshapen
  unfolding counted counted_by
  no_count h small = go (eqb (length payload) 4) h
    where
      go : (t : Bool) → cond t (Some (count_of payload)) None ≡ None → cond (t && small) (bytes (replicate (count_of payload) 0)) misshapen ≡ misshapen
      go true e = absurd (cc)
      go false e = refl

  pub some_count : (n : ℕ) → counted_by payload ≡ Some n → (count_of payload ≡ n) × ((small : Bool) → counted payload small ≡ cond small (bytes (replicate n 0)) misshapen)
  unfolding counted counted_by
  some_count n h = go (eqb (length payload) 4) h
    where
      go : (t : Bool) → cond t (Some (count_of payload)) None ≡ Some n
          → (count_of payload ≡ n) × ((small : Bool) → cond (t && small) (bytes (replicate (count_of payload) 0)) misshapen ≡ cond small (bytes (replicate n 0)) misshapen)
      go true e = let same : count_of payload ≡ n = cc in (same, λ small. rw same)
      go false e = absurd (cc)

  pub plain_buffer : (o : Operation) → (o ≡ Ratchet → ⊥) → (o ≡ Prf → ⊥) → (o ≡ SendMac → ⊥) → buffer_of o payload ≡ bytes payload
  plain_buffer Ad r p m = refl
  plain_buffer Ratchet r p m = absurd (r refl)
  plain_buffer Key r p m = refl
  plain_buffer Prf r p m = absurd (p refl)
  plain_buffer SendClr r p m = refl
  plain_buffer RecvClr r p m = refl
  plain_buffer SendMac r p m = absurd (m refl)
  plain_buffer RecvMac r p m = refl
  plain_buffer SendEnc r p m = refl
  plain_buffer RecvEnc r p m = refl
  plain_buffer Unknown r p m = refl

  pub draws_by_count : (o : Operation) → (o ≡ Prf) ⊎ (o ≡ SendMac) → buffer_of o payload ≡ counted payload (leb (count_of payload) limit)
  draws_by_count o (inl e) = rw e
  draws_by_count o (inr e) = rw e

said_most : (l : Line) (bs : List ℕ) → length l.buffer ≡ line_limit → read_of (part_of l) ≡ bytes bs → length bs ≤ line_limit
said_most l bs long h = go (l.good && not (is_some l.upper)) h
  where
    go : (t : Bool) → cond t (bytes (take l.count l.buffer)) misshapen ≡ bytes bs → length bs ≤ line_limit
    go true e = rw (sym (bytes_one e)) (omega (arith, length-take l.count l.buffer))
    go false e = absurd (not_bytes e)

lent_from : (l : Line) (bs : List ℕ) (n : ℕ) → read_of (part_of l) ≡ bytes bs → 2 ≤ length bs → n ≡ length bs - 2 → take n (drop 2 l.buffer) ≡ take (length bs - 2) (drop 2 bs)
lent_from l bs n h some e = go (l.good && not (is_some l.upper)) h
  where
    go : (t : Bool) → cond t (bytes (take l.count l.buffer)) misshapen ≡ bytes bs → take n (drop 2 l.buffer) ≡ take (length bs - 2) (drop 2 bs)
    go true h =
        let rest = drop l.count l.buffer in
        let split : l.buffer ≡ bs ++ rest = sym (take-append-drop l.count l.buffer) ∙ ap (λ (x : List ℕ). x ++ rest) (bytes_one h) in
        rw (take_rest bs 2)
        (ap (λ (x : List ℕ). take n (drop 2 x)) split
        ∙ ap (take n) (drop-append-le 2 bs rest some)
        ∙ take_at (drop 2 bs) rest n (omega (arith, length-drop 2 bs)))
    go false h = absurd (not_bytes h)

pub line_calls : (s : Session) (bs : List ℕ) → length bs ≤ line_limit → 2 ≤ length bs → get_or bs 1 0 ≤ 1 → (o : Operation) → operation (flags (get_or bs 0 0)) ≡ o
    → framed s (bytes bs) ≡ calling s (flags (get_or bs 0 0)) (eqb (get_or bs 1 0) 1) (buffer_of o (drop 2 bs))
unfolding framed
line_calls s [] most some small o e = absurd (omega arith)
line_calls s (f ∷ []) most some small o e = absurd (omega arith)
line_calls s (f ∷ more ∷ payload) most some small o e = rw (le-leb more 1 small, le-leb (length payload) limit (omega arith), e)

pub large_more_refused : (s : Session) (bs : List ℕ) → 2 ≤ length bs → 1 < get_or bs 1 0 → framed s (bytes bs) ≡ refused s
unfolding framed
large_more_refused s [] some large = absurd (omega arith)
large_more_refused s (f ∷ []) some large = absurd (omega arith)
large_more_refused s (f ∷ more ∷ payload) some large = rw (lt-leb more 1 large)

-- ---- a line that says bytes

module _ (l : Line) (o : Option (Bor (List ℕ))) (b : Bor (List ℕ)) (told : said (option_copied o) ≡ read_of (part_of l)) (is : o ≡ Some b)
    (long : length l.buffer ≡ line_limit) (some : 2 ≤ length b.now) where
  abbrev payload : List ℕ
  payload = take (length b.now - 2) (drop 2 b.now)

  reads_bytes : read_of (part_of l) ≡ bytes b.now
  reads_bytes = sym told ∙ ap (λ (o : Option (Bor (List ℕ))). said (option_copied o)) is

  pub length-payload : length payload ≡ length b.now - 2
  length-payload = omega (arith, length-take (length b.now - 2) (drop 2 b.now), length-drop 2 b.now)

  -- it stands in the buffer
  pub payload_is_lent : take (length payload + 2 - 2) (drop 2 l.buffer) ≡ payload
  payload_is_lent = lent_from l b.now (length payload + 2 - 2) reads_bytes some (omega (arith, length-payload))

  module _ (s : Session) (small : get_or b.now 1 0 ≤ 1) (op : Operation) (calls : op ≡ operation (flags (get_or b.now 0 0))) where
    pub said_calls : framed s (read_of (part_of l)) ≡ calling s (flags (get_or b.now 0 0)) (eqb (get_or b.now 1 0) 1) (buffer_of op payload)
    said_calls = rw (reads_bytes, take_rest b.now 2) (line_calls s b.now (said_most l b.now long reads_bytes) some small op (sym calls))

    pub refused_misshapen : buffer_of op payload ≡ misshapen → refused s ≡ framed s (read_of (part_of l))
    unfolding calling
    refused_misshapen e = rw (said_calls, e)

-- ---- the two ratchets

pub ratchet_by_its_bit : (f : Flags) → operation f ≡ Ratchet → f ≡ cond (has f M) META_RATCHET RATCHET
ratchet_by_its_bit f e = at_each (λ (f : Flags). f ≡ cond (has f M) META_RATCHET RATCHET) ratchets (refl, (refl, tt)) f (handled_as f Ratchet e refl)

-- either of the two
pub ratcheted : (s : Session) (f : Flags) (more : Bool) (n : ℕ) (meta : Bool) (o : Outcome) → operation f ≡ Ratchet → meta ≡ has f M
    → Calls s (cond meta META_RATCHET RATCHET) more (replicate n 0) o (replicate n 0) → unshown o ≡ calling s f more (bytes (replicate n 0))
unfolding calling
ratcheted s f more n meta o is bit h =
    let flags : f ≡ cond meta META_RATCHET RATCHET = ratchet_by_its_bit f is ∙ ap (λ (b : Bool). cond b META_RATCHET RATCHET) (sym bit) in
    let outcome = rw (sym flags) at h.outcome in
    rw (is, and-false, outcome.answer, outcome.session)
