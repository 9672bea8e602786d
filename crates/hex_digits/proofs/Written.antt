-- The text of bytes, byte by byte. Assumes nothing.
use Rattle.std.proofs.Common.{◌≡◌, refl, ℕ, ◌+◌, ◌<◌, ◌≤◌, length, ◌/◌, ◌%◌, List, [], ◌∷◌, ◌++◌, get_or, take, false, arith, ◌^◌, ◌-◌}
use lib.Seq.{take_all}
use Rattle.std.proofs.lemmas.List.{take_more}
use Rattle.std.proofs.lemmas.Fmt.{hex_byte}
use Rattle.std.specs.Fmt.{digits, digit_glyph, padded_integral, format_spec}
use Rattle.hex_digits.specs.Digits.{digit_of, encode}

encode-append : (xs ys : List ℕ) → encode (xs ++ ys) ≡ encode xs ++ encode ys
unfolding encode
encode-append [] ys = refl
encode-append (x ∷ xs) ys = rw (encode-append xs ys)

pub encode_more : (xs : List ℕ) (i : ℕ) → i < length xs → encode (take (i + 1) xs) ≡ encode (take i xs) ++ (digit_of (get_or xs i 0 / 16) ∷ digit_of (get_or xs i 0 % 16) ∷ [])
unfolding encode
encode_more xs i h = rw (take_more xs i 0 h, encode-append)

pub encode_all : (xs : List ℕ) (i : ℕ) → length xs ≤ i → encode (take i xs) ≡ encode xs
encode_all xs i h = rw (take_all i xs h)

glyph : (n : ℕ) → n < 16 → digit_glyph false n ≡ digit_of n
glyph n h = grind arith

pub written : (b : ℕ) → b < 256 → padded_integral (format_spec 32 0 4 2 (2 ^ 64 - 1)) false [] (digits 16 false b) ≡ digit_of (b / 16) ∷ digit_of (b % 16) ∷ []
written b h = rw (hex_byte false b h, glyph (b / 16) (omega (arith, h)), glyph (b % 16) (omega arith))
