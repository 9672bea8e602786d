-- The journal: what is written, of what is read (docs/JOURNAL.md, section 4).
use Rattle.std.specs.Prelude.{cond, List, [], ◌∷◌, ◌++◌, ℕ, ◌+◌, ◌/◌, ◌%◌, eqb}
use Rattle.strobe.specs.Answer.{done}
use Rattle.strobe.specs.Session.{blank}
use Rattle.strobe.specs.declared.session.Session.{Session}
use Rattle.frames.specs.Hexadecimal.{Read, encode, decode}
use Rattle.frames.specs.Lines.{newline, lines}
use Rattle.frames.specs.Frames.{Said, opening, framed}
use Rattle.frames.specs.declared.journal.Stage.{Stage}
use Rattle.frames.specs.declared.journal.Stage.TheVariants.{First, Later, Ended}

-- the answer as two decimal digits, the buffer in hexadecimal, a newline
unfoldable pub answer_line : ℕ → List ℕ → List ℕ
answer_line n shown = (48 + n / 10) ∷ (48 + n % 10) ∷ (encode shown ++ newline ∷ [])

-- what a line comes to: the text that is written, and where the journal stands behind it
pub record Reply : Type 0 where
  pub text : List ℕ
  pub stage : Stage
  pub session : Session

abbrev pub told : Stage → Said → Reply
told stage r = record { text = answer_line r.answer r.shown; stage = stage; session = r.session }

-- a first line that gives anything but 0 ends the run
abbrev pub behind_first : Said → Stage
behind_first r = cond (eqb r.answer done) Later Ended

-- a run that has ended is silent
abbrev pub silent : Session → Reply
silent s = record { text = []; stage = Ended; session = s }

abbrev pub reply : Stage → Session → Read → Reply
reply First s line = told (behind_first (opening s line)) (opening s line)
reply Later s line = told Later (framed s line)
reply Ended s line = silent s

unfoldable pub replies : Stage → Session → List (List ℕ) → List ℕ
replies stage s [] = []
replies stage s (l ∷ ls) =
    let r = reply stage s (decode l) in
    r.text ++ replies r.stage r.session ls

-- from input bytes to output bytes
unfoldable pub journal : List ℕ → List ℕ
journal input = replies First blank (lines input)
