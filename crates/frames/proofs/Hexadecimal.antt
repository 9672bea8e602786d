-- Hexadecimal both ways: what was encoded decodes to its bytes, and what decodes was their encoding. Assumes nothing.
use Prim.Native.Nat.{ℕ, ◌+◌, ◌*◌, ◌/◌, ◌%◌, ◌<◌}
use mathlib.Core.Path.{◌≡◌, refl, sym, ap, ap₂, ◌∙◌}
use mathlib.Core.List.{List, [], ◌∷◌}
use mathlib.Core.Bool.{Bool, true, false, cond, ◌&&◌}
use native.Mathlib.Omega.{arith}
use lib.Dec.{ltb}
use borrow.Author.Tests.{lt-ltb, ltb-true}
use Rattle.hex_digits.specs.Digits.{digit_of, value_of}
use Rattle.hex_digits.proofs.Digits.{value_of_digit, digit_of_value}
use Rattle.laws.proofs.Bools.{and_left, and_right}
use Rattle.strobe.specs.Every.{Every}
use Rattle.frames.specs.Hexadecimal.{Read, misshapen, bytes, encode, decode, is_digit, byte_of, ahead}

-- ---- from bytes to digits and back

pub decode-encode : (bs : List ℕ) → Every (λ b. b < 256) bs → decode (encode bs) ≡ bytes bs
unfolding decode encode
decode-encode [] e = refl
decode-encode (b ∷ bs) e =
    let upper = value_of_digit (b / 16) (omega (arith, e.0)) in
    let lower = value_of_digit (b % 16) (omega arith) in
    ap₂ (λ (u l : ℕ). cond (ltb u 16 && ltb l 16) (ahead (u * 16 + l) (decode (encode bs))) misshapen) upper lower
    ∙ ap₂ (λ (s t : Bool). cond (s && t) (ahead (b / 16 * 16 + b % 16) (decode (encode bs))) misshapen)
    (lt-ltb (b / 16) 16 (omega (arith, e.0))) (lt-ltb (b % 16) 16 (omega arith))
    ∙ ap₂ (λ (n : ℕ) (r : Read). ahead n r) (omega arith) (decode-encode bs e.1)

-- ---- from digits to bytes and back

-- the text is the encoding of bytes
pub record Encodes (text bs : List ℕ) : Type 0 where
  pub same : encode bs ≡ text
  pub below : Every (λ b. b < 256) bs

pub not_bytes : {bs : List ℕ} → misshapen ≡ bytes bs → ⊥
not_bytes h = let z : ◌≡◌ {A = ℕ} 0 1 = cc in omega arith

pub bytes_one : {bs cs : List ℕ} → bytes bs ≡ bytes cs → bs ≡ cs
bytes_one h = cc

-- a byte in front
one_more : (c d : ℕ) (text : List ℕ) → is_digit c ≡ true → is_digit d ≡ true
    → (r : Read) → ((bs : List ℕ) → r ≡ bytes bs → Encodes text bs)
    → (bs : List ℕ) → ahead (byte_of c d) r ≡ bytes bs → Encodes (c ∷ d ∷ text) bs
unfolding encode
one_more c d text p q misshapen f bs h = absurd (not_bytes h)
one_more c d text p q (bytes cs) f bs h =
    let rest = f cs refl in
    let upper = ltb-true (value_of c) 16 p in
    let lower = ltb-true (value_of d) 16 q in
    rw (sym (bytes_one h)) (record {
      same =
          ap₂ (λ (u l : ℕ). digit_of u ∷ digit_of l ∷ encode cs) (omega (arith, lower)) (omega (arith, lower))
          ∙ ap₂ (λ (u l : ℕ). u ∷ l ∷ encode cs) (sym (digit_of_value c upper)) (sym (digit_of_value d lower))
          ∙ ap (λ (t : List ℕ). c ∷ d ∷ t) rest.same;
      below = (omega (arith, upper, lower), rest.below);
    })

pub decode_encodes : (text bs : List ℕ) → decode text ≡ bytes bs → Encodes text bs
unfolding decode encode
decode_encodes [] bs h = rw (sym (bytes_one h)) (record { same = refl; below = tt })
decode_encodes (c ∷ []) bs h = absurd (not_bytes h)
decode_encodes (c ∷ d ∷ text) bs h = go (is_digit c && is_digit d) refl h (decode_encodes text)
  where
    go : (t : Bool) → (is_digit c && is_digit d) ≡ t → cond t (ahead (byte_of c d) (decode text)) misshapen ≡ bytes bs
        → ((cs : List ℕ) → decode text ≡ bytes cs → Encodes text cs) → Encodes (c ∷ d ∷ text) bs
    go true e k f = one_more c d text (and_left (is_digit c) (is_digit d) e) (and_right (is_digit c) (is_digit d) e) (decode text) f bs k
    go false e k f = absurd (not_bytes k)
