-- Bytes from lower-case hexadecimal digits, two a byte, the upper half first (docs/JOURNAL.md, section 1). The digits of bytes, `encode`, are those of
-- the crate hex_digits.
use Rattle.std.specs.Prelude.{cond, ◌&&◌, List, [], ◌∷◌, ℕ}
unfoldable pub use Rattle.hex_digits.specs.Digits.{encode}
pub use Rattle.hex_digits.specs.Digits.{is_digit, byte_of}

-- what a text says: bytes, or nothing where it is out of shape
pub data Read : Type 0 where
  misshapen : Read
  bytes : List ℕ → Read

-- a byte in front of others
abbrev pub ahead : ℕ → Read → Read
ahead b misshapen = misshapen
ahead b (bytes bs) = bytes (b ∷ bs)

-- an odd count of digits, or another character, is out of shape
unfoldable pub decode : List ℕ → Read
decode [] = bytes []
decode (c ∷ []) = misshapen
decode (c ∷ d ∷ text) = cond (is_digit c && is_digit d) (ahead (byte_of c d) (decode text)) misshapen
