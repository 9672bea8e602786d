-- What the private functions give. Nothing here is to be believed: no promise of a public function cites it.
use Rattle.std.specs.Prelude.{Bool, true, false, not, cond, ◌&&◌, List, [], ◌∷◌, ◌++◌, ◌≡◌, ℕ, Option, Some, None, eqb, length, drop}
use Rattle.strobe.specs.Answer.{number}
use Rattle.strobe.specs.declared.session.Outcome.{Outcome}
use Rattle.strobe.specs.declared.session.Session.{Session}
use Rattle.frames.specs.Hexadecimal.{Read, misshapen, bytes}
use Rattle.frames.specs.Frames.{Said, refused, count_of, opening, framed}
use Rattle.frames.specs.Lines.{newline}
use Rattle.frames.specs.Steps.{Part, read}
use Rattle.frames.specs.declared.called.Called.{Called}
use Rattle.frames.specs.declared.journal.Stage.{Stage}
use Rattle.frames.specs.declared.journal.Stage.TheVariants.{First, Later, Ended}

-- a text at the start of what was there, and its length
pub record Writes (text : List ℕ) (out : List ℕ) (put : ℕ) (out' : List ℕ) : Type 0 where
  pub size : put ≡ length text
  pub lent : out' ≡ text ++ drop (length text) out

-- ---- a line

abbrev pub is_whole : Part → Bool
is_whole p = p.good && not p.half

-- what is said, or that nothing is
abbrev pub said : Option (List ℕ) → Read
said None = misshapen
said (Some bs) = bytes bs

-- a part of whole bytes
abbrev pub even : List ℕ → Part
even bs = record { bytes = bs; half = false; upper = 0; good = true }

-- a line's part with the characters up to the newline, or to the end of the input
unfoldable pub read_all : Part → List ℕ → Part
read_all p [] = p
read_all p (c ∷ input) = cond (eqb c newline) p (read_all (read p c) input)

-- what is behind the newline, where one comes
unfoldable pub past : List ℕ → Option (List ℕ)
past [] = None
past (c ∷ input) = cond (eqb c newline) (Some input) (past input)

-- a part with an input, and another with another, come to the same
pub record Same (p : Part) (s : List ℕ) (q : Part) (t : List ℕ) : Type 0 where
  pub reads : read_all p s ≡ read_all q t
  pub rest : past s ≡ past t

-- ---- a frame

-- the count that a payload is
unfoldable pub counted_by : List ℕ → Option ℕ
counted_by payload = cond (eqb (length payload) 4) (Some (count_of payload)) None

abbrev pub unshown : Outcome → Said
unshown o = record { answer = number o.answer; session = o.session; shown = [] }

abbrev pub called : Called → Said
called c = record { answer = number c.outcome.answer; session = c.outcome.session; shown = c.shown.now }

-- nothing is done on a line that is out of shape
abbrev pub told_by : Session → Option Called → Said
told_by s None = refused s
told_by s (Some c) = called c

-- ---- a reply

-- the stage behind a line that is done, or is not
abbrev pub stage_behind : Stage → Bool → Stage
stage_behind First done = cond done Later Ended
stage_behind Later done = Later
stage_behind Ended done = Ended

-- what comes of a line at a stage
abbrev pub said_at : Stage → Session → Read → Said
said_at First s line = opening s line
said_at Later s line = framed s line
said_at Ended s line = refused s
