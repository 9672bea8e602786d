-- A state as a line of text: two hexadecimal digits a byte, and a newline. Assumes nothing.
use Rattle.std.specs.Prelude.{◌≡◌, List, ℕ, ◌+◌, ◌*◌, ◌/◌, ◌%◌, ◌<◌, get_or}
use Rattle.hex_digits.specs.Digits.{digit_of}

abbrev pub Bytes : List ℕ → Type 0
Bytes s = (i : ℕ) → get_or s i 0 < 256

-- byte i's two digits stand at 2 i, the upper half's first
abbrev pub SpellsAt : List ℕ → List ℕ → ℕ → Type 0
SpellsAt line state i = (get_or line (2 * i) 0 ≡ digit_of (get_or state i 0 / 16)) × (get_or line (2 * i + 1) 0 ≡ digit_of (get_or state i 0 % 16))

-- the line has the digits of each of the 200 bytes, and then a newline
abbrev pub Spells : List ℕ → List ℕ → Type 0
Spells line state = ((i : ℕ) → i < 200 → SpellsAt line state i) × (get_or line 400 0 ≡ 10)
