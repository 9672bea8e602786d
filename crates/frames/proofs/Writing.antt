-- Laws of writing: texts written one behind another are one text, and so come bytes in hexadecimal and an answer. Assumes nothing.
use mathlib.Core.Path.{◌≡◌, refl, sym, ap, ◌∙◌}
use mathlib.Core.List.{List, [], ◌∷◌, ◌++◌, append-nil, append_assoc}
use Prim.Native.Nat.{ℕ, suc, ◌+◌, ◌-◌, ◌*◌, ◌/◌, ◌%◌, ◌≤◌, ◌<◌}
use native.Mathlib.Omega.{arith}
use native.Mathlib.Numerals.{add-one}
use lib.ListN.{length, take, drop, set, get_or, length-append, length-take, length-drop, length-set, drop_of_length-le}
use lib.Seq.{take_at, drop_at, drop-drop, set_split, length-take-le}
use borrow.Rule.Slice.PartMut.{put_mid, Post-is}
use Rattle.std.proofs.lemmas.List.{take_rest}
use Rattle.hex_digits.specs.Digits.{digit_of}
use Rattle.hex_digits.proofs.Written.{encode_more}
use Rattle.frames.specs.Hexadecimal.{encode}
use Rattle.frames.specs.Lines.{newline}
use Rattle.frames.specs.Journal.{answer_line}
use Rattle.frames.specs.Inside.{Writes}

-- ---- any text

nothing_writes : (out : List ℕ) → Writes [] out 0 out
nothing_writes out = record { size = refl; lent = refl }

module _ (text out : List ℕ) (put : ℕ) (out' : List ℕ) (w : Writes text out put out') where
  text_first : take put out' ≡ text
  text_first = ap (take put) w.lent ∙ take_at text (drop (length text) out) put (sym w.size)

  rest_stays : drop put out' ≡ drop put out
  rest_stays = ap (drop put) w.lent ∙ drop_at text (drop (length text) out) put (sym w.size) ∙ ap (λ (n : ℕ). drop n out) (sym w.size)

  pub one_more : (b : ℕ) → put < length out' → Writes (text ++ b ∷ []) out (put + 1) (set out' put b)
  one_more b h =
      let size : length (text ++ b ∷ []) ≡ put + 1 = omega (arith, w.size, length-append text (b ∷ [])) in
      record {
        size = sym size;
        lent =
            rw (size, ← drop-drop 1 put out, ← rest_stays, drop-drop 1 put out', add-one put, append_assoc text (b ∷ []) (drop (suc put) out'), ← text_first)
            (set_split out' put b h);
      }

  -- another text in the rest of the buffer
  pub joins : (b : List ℕ) (n : ℕ) (rest : List ℕ) → put ≤ length out' → Writes b (take (length out' - put) (drop put out')) n rest
      → Writes (text ++ b) out (put + n) (put_mid put (length out' - put) out' rest)
  joins b n rest h v =
      let size : length (text ++ b) ≡ put + n = omega (arith, w.size, v.size, length-append text b) in
      let post = Post-is put (length out') out' h ∙ drop_of_length-le out' {i = length out'} (omega arith) in
      record {
        size = sym size;
        lent =
            rw (post, append-nil rest, text_first, v.lent, take_rest out' put, rest_stays, size, append_assoc text b (drop (put + n) out), ← v.size)
            (ap (λ (l : List ℕ). text ++ (b ++ l)) (drop-drop n put out));
      }

-- ---- bytes in hexadecimal

pub length-encode : (bytes : List ℕ) → length (encode bytes) ≡ 2 * length bytes
unfolding encode
length-encode [] = refl
length-encode (b ∷ bytes) = let n = length-encode bytes in omega arith

pub no_bytes_write : (out : List ℕ) → Writes (encode []) out 0 out
unfolding encode
no_bytes_write out = nothing_writes out

pub two_more : (bytes out : List ℕ) (i : ℕ) (out' : List ℕ) → Writes (encode (take i bytes)) out (2 * i) out' → i < length bytes → 2 * i + 1 < length out'
    → (digits : List ℕ) → digits ≡ digit_of (get_or bytes i 0 / 16) ∷ digit_of (get_or bytes i 0 % 16) ∷ []
    → Writes (encode (take (i + 1) bytes)) out (2 * (i + 1)) (set (set out' (2 * i) (get_or digits 0 0)) (2 * i + 1) (get_or digits 1 0))
two_more bytes out i out' w h k digits d =
    let byte = get_or bytes i 0 in
    let upper = digit_of (byte / 16) in
    let lower = digit_of (byte % 16) in
    let text = encode (take i bytes) in
    let two : 2 * (i + 1) ≡ 2 * i + 1 + 1 = omega arith in
    let more : encode (take (i + 1) bytes) ≡ (text ++ upper ∷ []) ++ lower ∷ [] =
    encode_more bytes i h ∙ sym (append_assoc text (upper ∷ []) (lower ∷ [])) in
    rw (d, more, two)
    (one_more (text ++ upper ∷ []) out (2 * i + 1) (set out' (2 * i) upper) (one_more text out (2 * i) out' w upper (omega arith)) lower (rw length-set k))

-- ---- an answer

-- a newline finds room behind two characters and the digits
pub newline_fits : (shown l : List ℕ) (n : ℕ) (rest : List ℕ) → 2 * length shown + 3 ≤ length l → Writes (encode shown) (take (length l - 2) (drop 2 l)) n rest
    → 2 + n < length (put_mid 2 (length l - 2) l rest)
newline_fits shown l n rest room v =
    let part = take (length l - 2) (drop 2 l) in
    let post = drop (length l - 2) (drop 2 l) in
    omega (
      arith,
      v.size,
      length-encode shown,
      ap (length {A = ℕ}) v.lent,
      length-append (encode shown) (drop (length (encode shown)) part),
      length-drop (length (encode shown)) part,
      length-take (length l - 2) (drop 2 l),
      length-drop 2 l,
      length-take-le 2 l (omega arith),
      length-append (take 2 l) (rest ++ post),
      length-append rest post,
    )

module _ (number : ℕ) (shown out : List ℕ) (room : 2 * length shown + 3 ≤ length out) where
  abbrev numbered : List ℕ
  numbered = set (set out 0 (48 + number / 10)) 1 (48 + number % 10)

  module _ (n : ℕ) (rest : List ℕ) (v : Writes (encode shown) (take (length numbered - 2) (drop 2 numbered)) n rest) where
    digits_write : Writes ((48 + number / 10) ∷ (48 + number % 10) ∷ encode shown) out (2 + n) (put_mid 2 (length numbered - 2) numbered rest)
    digits_write =
        let tens = 48 + number / 10 in
        let ones = 48 + number % 10 in
        let two : Writes (tens ∷ ones ∷ []) out 2 numbered =
        one_more (tens ∷ []) out 1 (set out 0 tens) (one_more [] out 0 out (nothing_writes out) tens (omega arith)) ones (rw length-set (omega arith)) in
        let long : length numbered ≡ length out = simp length-set in
        joins (tens ∷ ones ∷ []) out 2 numbered two (encode shown) n rest (omega arith) v

    pub answer_writes : Writes (answer_line number shown) out (2 + n + 1) (set (put_mid 2 (length numbered - 2) numbered rest) (2 + n) newline)
    unfolding answer_line
    answer_writes = one_more _ out (2 + n) _ digits_write newline (newline_fits shown numbered n rest (rw length-set (rw length-set room)) v)
