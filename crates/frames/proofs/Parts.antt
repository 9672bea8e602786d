-- A line read a character at a time says what `decode` says of it whole; where it is longer than a line can be, both are answered alike. Assumes nothing.
use Prim.Native.Nat.{ℕ, ◌+◌, ◌*◌, ◌%◌, ◌≤◌, ◌<◌}
use mathlib.Core.Path.{◌≡◌, refl, sym, ap, ap₂, ◌∙◌}
use mathlib.Core.List.{List, [], ◌∷◌, ◌++◌, append-nil, append_assoc}
use mathlib.Core.Bool.{Bool, true, false, not, cond, ◌&&◌}
use native.Mathlib.Omega.{arith}
use lib.Dec.{eqb, ltb, leb}
use lib.ListN.{length, length-append}
use borrow.Author.Tests.{lt-ltb, ltb-true, ltb-false, lt-leb}
use Rattle.hex_digits.specs.Digits.{value_of}
use Rattle.strobe.specs.Flags.{flags, operation}
use Rattle.strobe.specs.declared.session.Session.{Session}
use Rattle.frames.specs.Hexadecimal.{Read, misshapen, bytes, decode, is_digit, byte_of, ahead}
use Rattle.frames.specs.Frames.{Said, limit, level_of, buffer_of, creating, opening, refused, calling, framed}
use Rattle.frames.specs.Journal.{told, behind_first, reply}
use Rattle.frames.specs.Steps.{Part, line_limit, nothing, spoilt, upper_read, read, read_of, begun}
use Rattle.frames.specs.Inside.{even}
use Rattle.frames.specs.declared.journal.Stage.{Stage}
use Rattle.frames.specs.declared.journal.Stage.TheVariants.{First, Later, Ended}
use Rattle.frames.proofs.Hexadecimal.{not_bytes, bytes_one}
use Rattle.frames.proofs.Reading.{bad_stays, no_digit_spoils, upper_waits, full_spoils, upper_read-even, two_digits}

-- a text without a newline, read from a part on
unfoldable pub read_text : Part → List ℕ → Part
read_text p [] = p
read_text p (c ∷ text) = read_text (read p c) text

pub read_behind : (p : Part) (text : List ℕ) (c : ℕ) → read_text p (text ++ c ∷ []) ≡ read (read_text p text) c
unfolding read_text
read_behind p [] c = refl
read_behind p (b ∷ text) c = read_behind (read p b) text c

-- once spoilt, a line stays so
spoilt_stays : (p : Part) (text : List ℕ) → p.good ≡ false → read_of (read_text p text) ≡ misshapen
unfolding read_text
spoilt_stays p [] h = ap (λ (t : Bool). cond (t && not p.half) (bytes p.bytes) misshapen) h
spoilt_stays p (c ∷ text) h = ap (λ (q : Part). read_of (read_text q text)) (bad_stays p c h) ∙ spoilt_stays p text h

-- ---- a line whole

-- bytes, and then what a text says
abbrev joined : List ℕ → Read → Read
joined bs misshapen = misshapen
joined bs (bytes cs) = bytes (bs ++ cs)

-- what is read is what the text says, or it is too long
data Same (bs text : List ℕ) (r : Read) : Type 0 where
  same : r ≡ joined bs (decode text) → Same bs text r
  long : r ≡ misshapen → ((cs : List ℕ) → decode text ≡ bytes cs → line_limit < length (bs ++ cs)) → Same bs text r

joined-ahead : (bs : List ℕ) (b : ℕ) (r : Read) → joined (bs ++ b ∷ []) r ≡ joined bs (ahead b r)
joined-ahead bs b misshapen = refl
joined-ahead bs b (bytes cs) = ap bytes (append_assoc bs (b ∷ []) cs)

from_ahead : (b : ℕ) (r : Read) (cs : List ℕ) → ahead b r ≡ bytes cs → (ds : List ℕ) × (r ≡ bytes ds) × (cs ≡ b ∷ ds)
from_ahead b misshapen cs h = absurd (not_bytes h)
from_ahead b (bytes ds) cs h = (ds, refl, sym (bytes_one h))

one_same : (bs : List ℕ) (c : ℕ) (t : Bool) → is_digit c ≡ t → Same bs (c ∷ []) (read_of (read (even bs) c))
unfolding decode
one_same bs c true h = same (ap read_of (upper_waits (even bs) c refl (ltb-true (value_of c) 16 h) refl))
one_same bs c false h = same (ap read_of (no_digit_spoils (even bs) c refl (ltb-false (value_of c) 16 h)))

-- two characters of which one is no digit
none_same : (bs : List ℕ) (c d : ℕ) (text : List ℕ) (p : Part) → p.good ≡ false → (is_digit c && is_digit d) ≡ false → Same bs (c ∷ d ∷ text) (read_of (read_text p text))
unfolding decode
none_same bs c d text p g h =
    same (spoilt_stays p text g ∙ ap (joined bs) (sym (ap (λ (t : Bool). cond t (ahead (byte_of c d) (decode text)) misshapen) h)))

module _ (bs : List ℕ) (c d : ℕ) (text : List ℕ) (upper : is_digit c ≡ true) (lower : is_digit d ≡ true) where
  decoded : decode (c ∷ d ∷ text) ≡ ahead (byte_of c d) (decode text)
  unfolding decode
  decoded = ap₂ (λ (s t : Bool). cond (s && t) (ahead (byte_of c d) (decode text)) misshapen) upper lower

  more_same : (r : Read) → Same (bs ++ byte_of c d ∷ []) text r → Same bs (c ∷ d ∷ text) r
  more_same r (same e) = same (e ∙ joined-ahead bs (byte_of c d) (decode text) ∙ ap (joined bs) (sym decoded))
  more_same r (long e f) =
      long e
      (λ cs h.
      let k = from_ahead (byte_of c d) (decode text) cs (sym decoded ∙ h) in
      rw k.2 (omega (arith, f k.0 k.1, length-append (bs ++ byte_of c d ∷ []) k.0, length-append bs (byte_of c d ∷ []), length-append bs (byte_of c d ∷ k.0))))

  full_same : length bs ≡ line_limit → Same bs (c ∷ d ∷ text) (read_of (read_text (read (read (even bs) c) d) text))
  full_same h =
      let spoils = full_spoils (upper_read (even bs) (value_of c)) d refl (ltb-true (value_of d) 16 lower) refl (omega (arith, h)) in
      rw (upper_read-even bs c d (ltb-true (value_of c) 16 upper) (ltb-true (value_of d) 16 lower), spoils)
      (long (spoilt_stays (spoilt (upper_read (even bs) (value_of c))) text refl)
      (λ cs e.
      let k = from_ahead (byte_of c d) (decode text) cs (sym decoded ∙ e) in
      rw k.2 (omega (arith, h, length-append bs (byte_of c d ∷ k.0)))))

text_same : (bs text : List ℕ) → length bs ≤ line_limit → Same bs text (read_of (read_text (even bs) text))
unfolding read_text decode
text_same bs [] h = same (ap bytes (sym (append-nil bs)))
text_same bs (c ∷ []) h = one_same bs c (is_digit c) refl
text_same bs (c ∷ d ∷ text) h =
    go (is_digit c) (is_digit d) (ltb (length bs) line_limit) refl refl refl (λ more. text_same (bs ++ byte_of c d ∷ []) text more)
  where
    go : (s t u : Bool) → is_digit c ≡ s → is_digit d ≡ t → ltb (length bs) line_limit ≡ u
        → (length (bs ++ byte_of c d ∷ []) ≤ line_limit → Same (bs ++ byte_of c d ∷ []) text (read_of (read_text (even (bs ++ byte_of c d ∷ [])) text)))
        → Same bs (c ∷ d ∷ text) (read_of (read_text (read (read (even bs) c) d) text))
    go false t u p q k ih =
        rw (no_digit_spoils (even bs) c refl (ltb-false (value_of c) 16 p), bad_stays (spoilt (even bs)) d refl)
        (none_same bs c d text (spoilt (even bs)) refl (ap (λ (x : Bool). x && is_digit d) p))
    go true false u p q k ih =
        let waits = upper_read (even bs) (value_of c) in
        rw (upper_waits (even bs) c refl (ltb-true (value_of c) 16 p) refl, no_digit_spoils waits d refl (ltb-false (value_of d) 16 q))
        (none_same bs c d text (spoilt waits) refl (ap₂ (λ (x y : Bool). x && y) p q))
    go true true true p q k ih =
        let fits = ltb-true (length bs) line_limit k in
        rw (two_digits bs c d (ltb-true (value_of c) 16 p) (ltb-true (value_of d) 16 q) fits)
        (more_same bs c d text p q _ (ih (omega (arith, fits, length-append bs (byte_of c d ∷ [])))))
    go true true false p q k ih = full_same bs c d text p q (omega (arith, h, ltb-false (length bs) line_limit k))

-- ---- the reply to it

and_false : (t : Bool) → (t && false) ≡ false
and_false true = refl
and_false false = refl

module _ (s : Session) where
  opening_long : (cs : List ℕ) → line_limit < length cs → opening s (bytes cs) ≡ opening s misshapen
  unfolding opening
  opening_long [] h = refl
  opening_long (level ∷ name) h =
      ap (λ (t : Bool). cond t (creating name (level_of level)) (refused s)) (lt-leb (length name) limit (omega (arith, h)))

  framed_long : (cs : List ℕ) → line_limit < length cs → framed s (bytes cs) ≡ framed s misshapen
  unfolding framed
  framed_long [] h = refl
  framed_long (f ∷ []) h = refl
  framed_long (f ∷ more ∷ payload) h =
      let called = calling s (flags f) (eqb more 1) (buffer_of (operation (flags f)) payload) in
      ap (λ (t : Bool). cond (leb more 1 && t) called (refused s)) (lt-leb (length payload) limit (omega (arith, h)))
      ∙ ap (λ (t : Bool). cond t called (refused s)) (and_false (leb more 1))

  reply_long : (stage : Stage) (cs : List ℕ) → line_limit < length cs → reply stage s (bytes cs) ≡ reply stage s misshapen
  reply_long First cs h = ap (λ (r : Said). told (behind_first r) r) (opening_long cs h)
  reply_long Later cs h = ap (told Later) (framed_long cs h)
  reply_long Ended cs h = refl

pub reply-same : (stage : Stage) (s : Session) (text : List ℕ) → reply stage s (read_of (read_text nothing text)) ≡ reply stage s (decode text)
reply-same stage s text = go (decode text) refl (text_same [] text (omega arith))
  where
    joined_none : (r : Read) → joined [] r ≡ r
    joined_none misshapen = refl
    joined_none (bytes cs) = refl

    go : (r : Read) → decode text ≡ r → Same [] text (read_of (read_text nothing text)) → reply stage s (read_of (read_text nothing text)) ≡ reply stage s r
    go r e (same k) = ap (reply stage s) (k ∙ joined_none (decode text) ∙ e)
    go misshapen e (long k f) = ap (reply stage s) k
    go (bytes cs) e (long k f) = ap (reply stage s) k ∙ sym (reply_long s stage cs (f cs e))

-- ---- whether a line has begun

module _ (p : Part) (c : ℕ) where
  pub read-begun : begun (read p c) ≡ true
  unfolding read
  read-begun = go (p.good && is_digit c) p.half (ltb (length p.bytes) line_limit)
    where
      go : (s t u : Bool)
          → begun (cond s (cond t (cond u (even (p.bytes ++ (p.upper % 16 * 16 + value_of c) ∷ [])) (spoilt p)) (upper_read p (value_of c))) (spoilt p)) ≡ true
      go true true true =
          let one = (p.upper % 16 * 16 + value_of c) ∷ [] in
          lt-ltb 0 (length (p.bytes ++ one)) (omega (arith, length-append p.bytes one))
      go true true false = refl
      go true false u = refl
      go false t u = refl

pub text_begun : (p : Part) (text : List ℕ) → begun p ≡ true → begun (read_text p text) ≡ true
unfolding read_text
text_begun p [] h = h
text_begun p (c ∷ text) h = text_begun (read p c) text (read-begun p c)
