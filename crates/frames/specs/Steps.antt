-- The journal a character at a time, as the code goes through it, and what the public functions promise. That any pieces of an input give what
-- `journal` says is a theorem.
use Rattle.std.specs.Prelude.{Bool, true, false, not, cond, ◌&&◌, ◌||◌, List, [], ◌∷◌, ◌++◌, ◌≡◌, ℕ, suc, ◌+◌, ◌*◌, ◌-◌, ◌%◌, eqb, ltb, length, take, drop, is_some, unwrap_or}
use Rattle.hex_digits.specs.Digits.{value_of}
use Rattle.strobe.specs.Session.{blank}
use Rattle.strobe.specs.declared.session.Session.{Session}
use Rattle.frames.specs.Hexadecimal.{Read, misshapen, bytes, is_digit}
use Rattle.frames.specs.Lines.{newline}
use Rattle.frames.specs.Journal.{Reply, reply}
use Rattle.frames.specs.declared.line.Line.{Line}
use Rattle.frames.specs.declared.journal.Stage.{Stage}
use Rattle.frames.specs.declared.journal.Stage.TheVariants.{First, Later, Ended}
use Rattle.frames.specs.declared.journal.Journal.{Journal}
use Rattle.frames.specs.declared.journal.Stepped.{Stepped}

-- ---- a line as it comes

-- the longest line in shape has so many bytes
abbrev pub line_limit : ℕ
line_limit = 4098

-- the bytes so far; whether the upper half of a next byte waits, and its value; whether all is in shape so far
pub record Part : Type 0 where
  pub bytes : List ℕ
  pub half : Bool
  pub upper : ℕ
  pub good : Bool

abbrev pub nothing : Part
nothing = record { bytes = []; half = false; upper = 0; good = true }

abbrev pub spoilt : Part → Part
spoilt p = record { bytes = p.bytes; half = p.half; upper = p.upper; good = false }

abbrev pub upper_read : Part → ℕ → Part
upper_read p v = record { bytes = p.bytes; half = true; upper = v; good = true }

-- the remainder is for a journal that no step has made
abbrev pub lower_read : Part → ℕ → Part
lower_read p v =
    cond (ltb (length p.bytes) line_limit)
    (record { bytes = p.bytes ++ (p.upper % 16 * 16 + v) ∷ []; half = false; upper = 0; good = true })
    (spoilt p)

-- one character more
unfoldable pub read : Part → ℕ → Part
read p c = cond (p.good && is_digit c) (cond p.half (lower_read p (value_of c)) (upper_read p (value_of c))) (spoilt p)

-- what a line says that ends here
abbrev pub read_of : Part → Read
read_of p = cond (p.good && not p.half) (bytes p.bytes) misshapen

-- a line has begun
abbrev pub begun : Part → Bool
begun p = not p.good || (p.half || ltb 0 (length p.bytes))

-- ---- where a journal stands, within a line too

pub record Place : Type 0 where
  pub stage : Stage
  pub session : Session
  pub part : Part

abbrev pub start : Place
start = record { stage = First; session = blank; part = nothing }

abbrev pub reply_at : Place → Reply
reply_at p = reply p.stage p.session (read_of p.part)

abbrev pub behind : Reply → Place
behind r = record { stage = r.stage; session = r.session; part = nothing }

abbrev pub reading : Place → ℕ → Place
reading p c = record { stage = p.stage; session = p.session; part = read p.part c }

-- ---- a step: as much of the input as there is room to answer

-- two digits, 4,096 bytes in hexadecimal and a newline
abbrev pub answer_limit : ℕ
answer_limit = 8195

-- where the journal stands behind a step, how much of the input it took, what it wrote
pub record Went : Type 0 where
  pub place : Place
  pub taken : ℕ
  pub output : List ℕ

abbrev pub still : Place → Went
still p = record { place = p; taken = 0; output = [] }

abbrev pub onward : List ℕ → Went → Went
onward text w = record { place = w.place; taken = suc w.taken; output = text ++ w.output }

unfoldable pub stepped : Place → List ℕ → ℕ → Went
stepped p [] room = still p
stepped p (c ∷ input) room =
    cond (ltb room answer_limit) (still p)
    (cond (eqb c newline)
    (onward (reply_at p).text (stepped (behind (reply_at p)) input (room - length (reply_at p).text)))
    (onward [] (stepped (reading p c) input room)))

-- a last line without its newline is answered as if it had one
unfoldable pub finished : Place → ℕ → Went
finished p room = cond (begun p.part) (stepped p (newline ∷ []) room) (still p)

abbrev pub is_ended : Stage → Bool
is_ended First = false
is_ended Later = false
is_ended Ended = true

-- ---- the struct, as the definitions see it, and the promises

abbrev pub part_of : Line → Part
part_of l = record { bytes = take l.count l.buffer; half = is_some l.upper; upper = unwrap_or l.upper 0; good = l.good }

abbrev pub place_of : Journal → Place
place_of j = record { stage = j.stage; session = j.session; part = part_of j.line }

-- a journal, the number of bytes it took and those it wrote at the start of a lent buffer
pub record Steps (w : Went) (out : List ℕ) (r : Stepped) (out' : List ℕ) : Type 0 where
  pub place : place_of r.journal ≡ w.place
  pub taken : r.taken ≡ w.taken
  pub put : r.put ≡ length w.output
  pub lent : out' ≡ w.output ++ drop (length w.output) out
