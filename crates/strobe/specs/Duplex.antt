-- The duplex of STROBE v1.0.2, its `_duplex` and `_run_f`: docs/RULES.md, sections 3 and 4. All of it is over a sponge (a permutation of byte
-- lists, a rate, and the count of state bytes), and over a rule, what a byte of data does with the state byte that it meets.
use Rattle.std.specs.Prelude.{Bool, true, false, cond, ◌&&◌, List, [], ◌∷◌, ℕ, ◌+◌, eqb, get_or, set}
use Rattle.std.specs.Int.Bits.{bit_xor}

-- as in SPONGE[f, pad, r] of FIPS 202, section 4; pad is STROBE's own, `padded`
pub record Sponge : Type 0 where
  pub perm : List ℕ → List ℕ
  pub rate : ℕ
  pub size : ℕ

-- state bytes, position, begin position
pub record Duplex : Type 0 where
  pub st : List ℕ
  pub pos : ℕ
  pub begin : ℕ

-- what state byte s and buffer byte b become
pub record Rule : Type 0 where
  pub state : ℕ → ℕ → ℕ
  pub buffer : ℕ → ℕ → ℕ

-- x is xored into byte i
unfoldable pub mix : List ℕ → ℕ → ℕ → List ℕ
mix st i x = set st i (bit_xor (get_or st i 0) x)

-- the state byte at the position
abbrev pub at_pos : Duplex → ℕ
at_pos d = get_or d.st d.pos 0

-- section 3: a byte of data at the position, which then grows by one
abbrev pub placed : Rule → Duplex → ℕ → Duplex
placed r d b = record { st = set d.st d.pos (r.state (at_pos d) b); pos = d.pos + 1; begin = d.begin }

module _ (sp : Sponge) where
  -- section 4: the begin position at the position, 04 in the next byte, 80 in byte R+1; where the position is R the last two fall on one byte
  unfoldable pub padded : Duplex → List ℕ
  padded d = mix (mix (mix d.st d.pos d.begin) (d.pos + 1) 0x04) (sp.rate + 1) 0x80

  -- closing a block
  abbrev pub close : Duplex → Duplex
  close d = record { st = sp.perm (padded d); pos = 0; begin = 0 }

  -- at the rate the block is closed at once
  unfoldable pub close_if_full : Duplex → Duplex
  close_if_full d = cond (eqb d.pos sp.rate) (close d) d

  unfoldable pub step : Rule → Duplex → ℕ → Duplex
  step r d b = close_if_full (placed r d b)

  -- many bytes of data: the duplex after them, and the bytes given back
  unfoldable pub after : Rule → Duplex → List ℕ → Duplex
  after r d [] = d
  after r d (b ∷ bs) = after r (step r d b) bs

  unfoldable pub out : Rule → Duplex → List ℕ → List ℕ
  out r d [] = []
  out r d (b ∷ bs) = r.buffer (at_pos d) b ∷ out r (step r d b) bs

  -- the old state bytes that the bytes of data meet
  abbrev pub met : Rule → Duplex → List ℕ → List ℕ
  met r d bs = out (record { state = r.state; buffer = λ s b. s }) d bs

-- two byte strings are equal
abbrev pub same : List ℕ → List ℕ → Bool
same [] [] = true
same [] (y ∷ ys) = false
same (x ∷ xs) [] = false
same (x ∷ xs) (y ∷ ys) = eqb x y && same xs ys
