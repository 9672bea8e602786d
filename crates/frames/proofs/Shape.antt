-- Answer 7 is given to a line exactly where it is out of shape: a line in shape never gets it, and any other changes nothing. Assumes nothing.
use Prim.Native.Nat.{ℕ}
use mathlib.Core.Path.{◌≡◌, refl, sym, ap, ap₂, ◌∙◌}
use mathlib.Core.List.{List, [], ◌∷◌}
use mathlib.Core.Bool.{Bool, true, false, cond, ◌&&◌}
use lib.Dec.{eqb, leb}
use lib.ListN.{length, replicate}
use borrow.Author.Tests.{le-leb, leb-true, eq-eqb, eqb-true}
use Rattle.strobe.specs.Answer.{bad_line}
use Rattle.strobe.specs.Flags.{flags, operation}
use Rattle.strobe.specs.Session.{sponge_of, seen}
use Rattle.strobe.specs.declared.flags.Operation.{Operation}
use Rattle.strobe.specs.declared.flags.Operation.TheVariants.{Ad, Ratchet, Key, Prf, SendClr, RecvClr, SendMac, RecvMac, SendEnc, RecvEnc, Unknown}
use Rattle.strobe.specs.declared.session.Session.{Session}
use Rattle.frames.specs.Hexadecimal.{Read, misshapen, bytes, decode}
use Rattle.frames.specs.Frames.{limit, level_of, creating, opening, count_of, counted, buffer_of, refused, calling, framed}
use Rattle.frames.specs.Shape.{FirstShape, PayloadShape, LaterShape, InShape}
use Rattle.strobe.proofs.Seven.{call_not_seven, created_not_seven}
use Rattle.frames.proofs.Hexadecimal.{decode-encode, decode_encodes}

-- ---- the payload

counted-read : (payload : List ℕ) (small : Bool) → length payload ≡ 4 → small ≡ true → counted payload small ≡ bytes (replicate (count_of payload) 0)
unfolding counted
counted-read payload small h k =
    ap₂ (λ (s t : Bool). cond (s && t) (bytes (replicate (count_of payload) 0)) misshapen) (eq-eqb (length payload) 4 h) k

counted_none : (payload : List ℕ) (small : Bool) → (length payload ≡ 4 → small ≡ true → ⊥) → counted payload small ≡ misshapen
unfolding counted
counted_none payload small h = go (eqb (length payload) 4) small refl refl
  where
    go : (s t : Bool) → eqb (length payload) 4 ≡ s → small ≡ t → cond (s && t) (bytes (replicate (count_of payload) 0)) misshapen ≡ misshapen
    go true true p q = absurd (h (eqb-true (length payload) 4 p) q)
    go true false p q = refl
    go false t p q = refl

-- a payload in shape asks for a buffer, any other for none
payload_read : (o : Operation) (payload : List ℕ) → PayloadShape o payload → (buffer : List ℕ) × (buffer_of o payload ≡ bytes buffer)
payload_read Ad payload h = (payload, refl)
payload_read Ratchet payload h = (replicate (count_of payload) 0, counted-read payload true h refl)
payload_read Key payload h = (payload, refl)
payload_read Prf payload h = (replicate (count_of payload) 0, counted-read payload (leb (count_of payload) limit) h.0 (le-leb (count_of payload) limit h.1))
payload_read SendClr payload h = (payload, refl)
payload_read RecvClr payload h = (payload, refl)
payload_read SendMac payload h = (replicate (count_of payload) 0, counted-read payload (leb (count_of payload) limit) h.0 (le-leb (count_of payload) limit h.1))
payload_read RecvMac payload h = (payload, refl)
payload_read SendEnc payload h = (payload, refl)
payload_read RecvEnc payload h = (payload, refl)
payload_read Unknown payload h = (payload, refl)

payload_none : (o : Operation) (payload : List ℕ) → (PayloadShape o payload → ⊥) → buffer_of o payload ≡ misshapen
payload_none Ad payload h = absurd (h tt)
payload_none Ratchet payload h = counted_none payload true (λ p q. h p)
payload_none Key payload h = absurd (h tt)
payload_none Prf payload h = counted_none payload (leb (count_of payload) limit) (λ p q. h (p, leb-true (count_of payload) limit q))
payload_none SendClr payload h = absurd (h tt)
payload_none RecvClr payload h = absurd (h tt)
payload_none SendMac payload h = counted_none payload (leb (count_of payload) limit) (λ p q. h (p, leb-true (count_of payload) limit q))
payload_none RecvMac payload h = absurd (h tt)
payload_none SendEnc payload h = absurd (h tt)
payload_none RecvEnc payload h = absurd (h tt)
payload_none Unknown payload h = absurd (h tt)

-- ---- the lines

module _ (s : Session) where
  -- what bytes in shape come to
  first_shape : (bs : List ℕ) → FirstShape bs → (opening s (bytes bs)).answer ≡ bad_line → ⊥
  unfolding opening
  first_shape [] h k = h
  first_shape (level ∷ name) h k =
      created_not_seven name (level_of level) (sym (ap (λ (t : Bool). (cond t (creating name (level_of level)) (refused s)).answer) (le-leb (length name) limit h)) ∙ k)

  later_shape : (bs : List ℕ) → LaterShape bs → (framed s (bytes bs)).answer ≡ bad_line → ⊥
  unfolding framed calling
  later_shape [] h k = h
  later_shape (f ∷ []) h k = h
  later_shape (f ∷ more ∷ payload) (m, l, p) k =
      let read = payload_read (operation (flags f)) payload p in
      let called = calling s (flags f) (eqb more 1) (buffer_of (operation (flags f)) payload) in
      call_not_seven (sponge_of s.level) (seen s) (flags f) (eqb more 1) read.0
      (sym (ap₂ (λ (a b : Bool). (cond (a && b) called (refused s)).answer) (le-leb more 1 m) (le-leb (length payload) limit l)
      ∙ ap (λ (r : Read). (calling s (flags f) (eqb more 1) r).answer) read.1) ∙ k)

  -- and other bytes
  first_else : (bs : List ℕ) → (FirstShape bs → ⊥) → opening s (bytes bs) ≡ refused s
  unfolding opening
  first_else [] h = refl
  first_else (level ∷ name) h = go (leb (length name) limit) refl
    where
      go : (t : Bool) → leb (length name) limit ≡ t → cond t (creating name (level_of level)) (refused s) ≡ refused s
      go true e = absurd (h (leb-true (length name) limit e))
      go false e = refl

  later_else : (bs : List ℕ) → (LaterShape bs → ⊥) → framed s (bytes bs) ≡ refused s
  unfolding framed calling
  later_else [] h = refl
  later_else (f ∷ []) h = refl
  later_else (f ∷ more ∷ payload) h = go (leb more 1) (leb (length payload) limit) refl refl
    where
      go : (a b : Bool) → leb more 1 ≡ a → leb (length payload) limit ≡ b
          → cond (a && b) (calling s (flags f) (eqb more 1) (buffer_of (operation (flags f)) payload)) (refused s) ≡ refused s
      go true true p q =
          ap (calling s (flags f) (eqb more 1)) (payload_none (operation (flags f)) payload (λ r. h (leb-true more 1 p, leb-true (length payload) limit q, r)))
      go true false p q = refl
      go false b p q = refl

-- ---- as text

-- a text in shape is read as its bytes
shape_read : (Shape : List ℕ → Type 0) (text : List ℕ) (h : InShape Shape text) → decode text ≡ bytes h.said
shape_read Shape text h = ap decode (sym h.digits) ∙ decode-encode h.said h.below

-- what holds of bytes out of shape holds of a text out of shape
none_shape : (Shape : List ℕ → Type 0) {A : Type 0} (f : Read → A) (a : A) → f misshapen ≡ a → ((bs : List ℕ) → (Shape bs → ⊥) → f (bytes bs) ≡ a)
    → (text : List ℕ) → (InShape Shape text → ⊥) → f (decode text) ≡ a
none_shape Shape f a none other text h = go (decode text) refl
  where
    go : (r : Read) → decode text ≡ r → f r ≡ a
    go misshapen e = none
    go (bytes bs) e =
        let k = decode_encodes text bs e in
        other bs (λ shape. h (record { said = bs; below = k.below; digits = k.same; shape = shape }))

module _ (s : Session) where
  pub first_in_shape : (text : List ℕ) → InShape FirstShape text → (opening s (decode text)).answer ≡ bad_line → ⊥
  first_in_shape text h k = first_shape s h.said h.shape (ap (λ (r : Read). (opening s r).answer) (sym (shape_read FirstShape text h)) ∙ k)

  pub later_in_shape : (text : List ℕ) → InShape LaterShape text → (framed s (decode text)).answer ≡ bad_line → ⊥
  later_in_shape text h k = later_shape s h.said h.shape (ap (λ (r : Read). (framed s r).answer) (sym (shape_read LaterShape text h)) ∙ k)

  -- out of shape: answer 7, and the session is as it was
  pub first_out_of_shape : (text : List ℕ) → (InShape FirstShape text → ⊥) → opening s (decode text) ≡ refused s
  unfolding opening
  first_out_of_shape = none_shape FirstShape (opening s) (refused s) refl (first_else s)

  pub later_out_of_shape : (text : List ℕ) → (InShape LaterShape text → ⊥) → framed s (decode text) ≡ refused s
  unfolding framed
  later_out_of_shape = none_shape LaterShape (framed s) (refused s) refl (later_else s)
