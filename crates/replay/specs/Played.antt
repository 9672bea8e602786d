-- A run of the code: what one end handed to the library's functions and what they returned, each return as the function promises.
use Rattle.std.specs.Prelude.{List, [], ◌∷◌, ◌≡◌, ℕ}
use Rattle.saved.specs.Saved.{Edition, form, loaded}
use Rattle.strobe.specs.Answer.{number}
use Rattle.strobe.specs.Runs.{Call}
use Rattle.strobe.specs.Session.{fresh_at, Is, Calls}
use Rattle.strobe.specs.declared.level.Level.{Level}
use Rattle.strobe.specs.declared.session.Outcome.{Outcome}
use Rattle.strobe.specs.declared.session.Session.{Session}
use Rattle.replay.specs.History.{Act, ask, reload, Entry}

pub data Step : Type 0 where
  -- `call`, or an operation by name: what it was given, what it returned, and the lent buffer after it
  called : Call → Outcome → List ℕ → Step
  -- `load`: the bytes that it was given, the session's form in this edition, and what it returned. `save` writes the newest edition
  loaded_from : Edition → List ℕ → Outcome → Step

-- from a session on, each step made with the session that the one before returned, up to the last
abbrev pub Returns : Session → List Step → Session → Type 0
Returns s [] t = t ≡ s
Returns s (called c r bs' ∷ steps) t = Calls s c.flags c.more c.bytes r bs' × Returns r.session steps t
Returns s (loaded_from e bs r ∷ steps) t = (bs ≡ form e s) × Is (loaded bs) r × Returns r.session steps t

-- `new`, then the steps
pub record Played (l : Level) (name : List ℕ) (steps : List Step) (t : Session) : Type 0 where
  pub new : Outcome
  pub fresh : Is (fresh_at l name) new
  pub returns : Returns new.session steps t

-- the calls with what came of them
abbrev pub entries : List Step → List Entry
entries [] = []
entries (called c r bs' ∷ steps) = record { call = c; answer = number r.answer; lent = bs' } ∷ entries steps
entries (loaded_from e bs r ∷ steps) = entries steps

-- the same as acts
abbrev pub acts : List Step → List (Act Edition)
acts [] = []
acts (called c r bs' ∷ steps) = ask c ∷ acts steps
acts (loaded_from e bs r ∷ steps) = reload e ∷ acts steps
