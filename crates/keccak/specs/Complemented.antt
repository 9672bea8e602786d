-- The lane complementing transform of Keccak's authors: between the rounds six lanes are kept complemented, so that chi complements five
-- lanes a round and not twenty-five. Nothing here is to be believed: it is what the private functions say to each other.
use Rattle.std.specs.Prelude.{List, [], ◌∷◌, ℕ, zero, suc, ◌+◌, ◌*◌, get_or}
use Rattle.fips202.specs.Lanes.{lane, lanes, complement}

-- the mark of lane (x, y), at x + 5 y: 1 where it is kept complemented
abbrev pub marks : List ℕ
marks =
    0 ∷ 1 ∷ 1 ∷ 0 ∷ 0
    ∷ 0 ∷ 0 ∷ 0 ∷ 1 ∷ 0
    ∷ 0 ∷ 0 ∷ 1 ∷ 0 ∷ 0
    ∷ 0 ∷ 0 ∷ 1 ∷ 0 ∷ 0
    ∷ 1 ∷ 0 ∷ 0 ∷ 0 ∷ 0 ∷ []

-- a lane of w bits, complemented where its mark is 1
abbrev pub by_mark : ℕ → ℕ → ℕ → ℕ
by_mark w zero x = x
by_mark w (suc m) x = complement w x

-- the lanes, the marked ones complemented
abbrev pub complemented_at : ℕ → List ℕ → ℕ → ℕ → ℕ
complemented_at w a x y = by_mark w (get_or marks (x + 5 * y) 0) (lane a x y)

unfoldable pub complemented : ℕ → List ℕ → List ℕ
complemented w a = lanes (complemented_at w a)
