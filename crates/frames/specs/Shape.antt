-- Lines in shape: docs/JOURNAL.md, sections 1 to 3, as a reader would put it. That 7 is the answer to all other lines and to no line in shape is a theorem.
use Rattle.std.specs.Prelude.{List, [], ◌∷◌, ◌≡◌, ℕ, ◌≤◌, ◌<◌, length}
use Rattle.strobe.specs.Every.{Every}
use Rattle.strobe.specs.Flags.{flags, operation}
use Rattle.strobe.specs.declared.flags.Operation.{Operation}
use Rattle.strobe.specs.declared.flags.Operation.TheVariants.{Ad, Ratchet, Key, Prf, SendClr, RecvClr, SendMac, RecvMac, SendEnc, RecvEnc, Unknown}
use Rattle.frames.specs.Hexadecimal.{encode}
use Rattle.frames.specs.Frames.{limit, count_of}

-- a level byte and a name
abbrev pub FirstShape : List ℕ → Type 0
FirstShape [] = ⊥
FirstShape (level ∷ name) = length name ≤ limit

-- four bytes of count for three of the operations
abbrev pub PayloadShape : Operation → List ℕ → Type 0
PayloadShape Ad payload = Unit {0}
PayloadShape Ratchet payload = length payload ≡ 4
PayloadShape Key payload = Unit {0}
PayloadShape Prf payload = (length payload ≡ 4) × (count_of payload ≤ limit)
PayloadShape SendClr payload = Unit {0}
PayloadShape RecvClr payload = Unit {0}
PayloadShape SendMac payload = (length payload ≡ 4) × (count_of payload ≤ limit)
PayloadShape RecvMac payload = Unit {0}
PayloadShape SendEnc payload = Unit {0}
PayloadShape RecvEnc payload = Unit {0}
PayloadShape Unknown payload = Unit {0}

-- a flag byte, a `more` byte and a payload
abbrev pub LaterShape : List ℕ → Type 0
LaterShape [] = ⊥
LaterShape (f ∷ []) = ⊥
LaterShape (f ∷ more ∷ payload) = (more ≤ 1) × (length payload ≤ limit) × PayloadShape (operation (flags f)) payload

-- a text that is the hexadecimal of bytes in such a shape
pub record InShape (Shape : List ℕ → Type 0) (text : List ℕ) : Type 0 where
  pub said : List ℕ
  pub below : Every (λ b. b < 256) said
  pub digits : encode said ≡ text
  pub shape : Shape said
