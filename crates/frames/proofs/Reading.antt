-- A line's part grown by a character or by a byte of two digits, and what is left of the input behind it: together they come to the same. Assumes nothing.
use mathlib.Core.Bool.{Bool, true, false, cond, ◌&&◌}
use mathlib.Core.List.{List, [], ◌∷◌, ◌++◌}
use mathlib.Core.Path.{◌≡◌, refl, sym, ◌∙◌}
use Prim.Native.Nat.{ℕ, ◌+◌, ◌*◌, ◌%◌, ◌≤◌, ◌<◌}
use native.Mathlib.Numerals.{add-one}
use native.Mathlib.Omega.{arith}
use lib.Dec.{ltb}
use lib.ListN.{length, take, drop, get_or, set, length-take}
use lib.Seq.{take-suc-set}
use borrow.Author.Tests.{not-true, lt-ltb, ltb-true, le-ltb, eq-eqb, ne_eqb}
use Rattle.std.specs.Prelude.{Option, Some, None, is_some}
use Rattle.hex_digits.specs.Digits.{value_of, pair_value}
use Rattle.hex_digits.proofs.Digits.{none_before_0}
use Rattle.laws.proofs.Bools.{and_left, and_right, true_not_false}
use Rattle.frames.specs.Inside.{Same, is_whole, even, read_all, past}
use Rattle.frames.specs.Hexadecimal.{byte_of}
use Rattle.frames.specs.Lines.{newline}
use Rattle.frames.specs.Steps.{Part, line_limit, spoilt, upper_read, read, part_of}
use Rattle.frames.specs.declared.line.Line.{Line}

-- ---- one character

module _ (p : Part) (c : ℕ) where
  pub bad_stays : p.good ≡ false → read p c ≡ p
  unfolding read
  bad_stays g = rw g

  pub no_digit_spoils : p.good ≡ true → 16 ≤ value_of c → read p c ≡ spoilt p
  unfolding read
  no_digit_spoils g d = rw (g, le-ltb (value_of c) 16 d)

  pub upper_waits : p.good ≡ true → value_of c < 16 → p.half ≡ false → read p c ≡ upper_read p (value_of c)
  unfolding read
  upper_waits g d e = rw (g, lt-ltb (value_of c) 16 d, e)

  pub full_spoils : p.good ≡ true → value_of c < 16 → p.half ≡ true → line_limit ≤ length p.bytes → read p c ≡ spoilt p
  unfolding read
  full_spoils g d e l = rw (g, lt-ltb (value_of c) 16 d, e, le-ltb (length p.bytes) line_limit l)

  pub byte_grows : p.good ≡ true → value_of c < 16 → p.half ≡ true → length p.bytes < line_limit
      → (byte : ℕ) → byte ≡ p.upper % 16 * 16 + value_of c → read p c ≡ even (p.bytes ++ byte ∷ [])
  unfolding read
  byte_grows g d e l byte b = rw (b, g, lt-ltb (value_of c) 16 d, e, lt-ltb (length p.bytes) line_limit l)

-- two digits make a byte
module _ (bs : List ℕ) (c d : ℕ) (u : value_of c < 16) (l : value_of d < 16) where
  pub upper_read-even : read (even bs) c ≡ upper_read (even bs) (value_of c)
  upper_read-even = upper_waits (even bs) c refl u refl

  pub two_digits : length bs < line_limit → read (read (even bs) c) d ≡ even (bs ++ byte_of c d ∷ [])
  two_digits h = rw upper_read-even (byte_grows (upper_read (even bs) (value_of c)) d refl l refl h (byte_of c d) (omega arith))

-- ---- what is read and what is left

pub same_through : {p q r : Part} {s t u : List ℕ} → Same p s q t → Same q t r u → Same p s r u
same_through a b = record { reads = a.reads ∙ b.reads; rest = a.rest ∙ b.rest }

module _ (p : Part) where
  pub one_character : (input : List ℕ) → 1 ≤ length input → (get_or input 0 0 ≡ newline → ⊥) → Same (read p (get_or input 0 0)) (drop 1 input) p input
  unfolding read_all past
  one_character [] h e = absurd (omega arith)
  one_character (c ∷ input) h e = let n = ne_eqb c newline e in record { reads = rw n; rest = rw n }

  pub at-newline : (input : List ℕ) → 1 ≤ length input → get_or input 0 0 ≡ newline → (read_all p input ≡ p) × (past input ≡ Some (drop 1 input))
  unfolding read_all past
  at-newline [] h e = absurd (omega arith)
  at-newline (c ∷ input) h e = rw (eq-eqb c newline e) (refl, refl)

  pub at_end : (input : List ℕ) → length input < 1 → (read_all p input ≡ p) × (past input ≡ None)
  unfolding read_all past
  at_end [] h = (refl, refl)
  at_end (c ∷ input) h = absurd (omega arith)

-- ---- pairs of digits

digit_no_newline : (c : ℕ) → value_of c < 16 → c ≡ newline → ⊥
digit_no_newline c d e = omega (arith, none_before_0 c (omega arith))

none_waits : (o : Option ℕ) → is_some o ≡ false → o ≡ None
none_waits None h = refl
none_waits (Some u) h = absurd (true_not_false refl h)

whole_is_even : (l : Line) → is_whole (part_of l) ≡ true → part_of l ≡ even (take l.count l.buffer)
whole_is_even l w = rw (and_left l.good _ w, none_waits l.upper (not-true (is_some l.upper) (and_right l.good _ w)))

-- the byte of a pair
record Pair (c d byte : ℕ) : Type 0 where
  upper : value_of c < 16
  lower : value_of d < 16
  same : byte ≡ byte_of c d

pair_is : (c d byte : ℕ) → Some byte ≡ pair_value c d → Pair c d byte
pair_is c d byte h = go (ltb (value_of c) 16) (ltb (value_of d) 16) refl refl h
  where
    go : (s t : Bool) → ltb (value_of c) 16 ≡ s → ltb (value_of d) 16 ≡ t → Some byte ≡ cond (s && t) (Some (byte_of c d)) None → Pair c d byte
    go true true p q e = record { upper = ltb-true (value_of c) 16 p; lower = ltb-true (value_of d) 16 q; same = cc }
    go true false p q e = absurd (cc)
    go false t p q e = absurd (cc)

pub one_pair : (l : Line) (input : List ℕ) (byte : ℕ) → length l.buffer ≡ line_limit → is_whole (part_of l) ≡ true → l.count < line_limit → 2 ≤ length input
    → Some byte ≡ pair_value (get_or input 0 0) (get_or input 1 0)
    → Same (part_of (record l { buffer = set l.buffer l.count byte; count = l.count + 1 })) (drop 2 input) (part_of l) input
one_pair l [] byte long w small h e = absurd (omega arith)
one_pair l (c ∷ []) byte long w small h e = absurd (omega arith)
one_pair l (c ∷ d ∷ input) byte long w small h e =
    let p = pair_is c d byte e in
    let bs = take l.count l.buffer in
    let stored : take (l.count + 1) (set l.buffer l.count byte) ≡ bs ++ byte_of c d ∷ [] = rw (add-one, take-suc-set l.buffer l.count byte (omega arith), p.same) in
    let grown : part_of (record l { buffer = set l.buffer l.count byte; count = l.count + 1 }) ≡ read (read (even bs) c) d =
    rw (and_left l.good _ w, none_waits l.upper (not-true (is_some l.upper) (and_right l.good _ w)), stored)
    (sym (two_digits bs c d p.upper p.lower (omega (arith, length-take l.count l.buffer)))) in
    rw (grown, whole_is_even l w)
    (same_through
    (one_character (read (even bs) c) (d ∷ input) (omega arith) (digit_no_newline d p.lower))
    (one_character (even bs) (c ∷ d ∷ input) (omega arith) (digit_no_newline c p.upper)))
