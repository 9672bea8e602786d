-- Lower-case hexadecimal digits in ASCII: the digit of a number, and the number of a digit; bytes in digits. Assumes nothing.
use Rattle.std.specs.Prelude.{List, [], ◌∷◌, Option, None, Some, Bool, cond, ◌&&◌, ℕ, ◌+◌, ◌-◌, ◌*◌, ◌/◌, ◌%◌, leb, ltb}

-- `0` is 48, and `a`, the digit of ten, stands 39 places after 48 + 10
abbrev pub digit_of : ℕ → ℕ
digit_of n = 48 + n + n / 10 * 39

-- 48 to 57 are `0` to `9`, and 97 to 102 `a` to `f`; a byte that is no digit has 16
unfoldable pub value_of : ℕ → ℕ
value_of byte =
    cond (leb 48 byte && leb byte 57) (byte - 48)
    (cond (leb 97 byte && leb byte 102) (byte - 87)
    16)

abbrev pub is_digit : ℕ → Bool
is_digit c = ltb (value_of c) 16

-- of two digits, the upper half first
abbrev pub byte_of : ℕ → ℕ → ℕ
byte_of c d = value_of c * 16 + value_of d

-- two digits for each byte
unfoldable pub encode : List ℕ → List ℕ
encode [] = []
encode (b ∷ bs) = digit_of (b / 16) ∷ digit_of (b % 16) ∷ encode bs

-- ---- what the functions answer

abbrev pub digit_value : ℕ → Option ℕ
digit_value c = cond (is_digit c) (Some (value_of c)) None

abbrev pub pair_value : ℕ → ℕ → Option ℕ
pair_value c d = cond (is_digit c && is_digit d) (Some (byte_of c d)) None
