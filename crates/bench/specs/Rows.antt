-- A row of the session bench: in a fresh session of level 128, one operation again and again over one buffer, then prf into another.
use Rattle.std.specs.Prelude.{false, List, [], ◌∷◌, ◌≡◌, ℕ, zero, suc}
use denote.Ref.{MutBor}
use Rattle.strobe.specs.Answer.{done}
use Rattle.strobe.specs.Flags.{PRF}
use Rattle.strobe.specs.Session.{sponge_of, Calls}
use Rattle.strobe.specs.Strobe.{Strobe, Effect, call, fresh}
use Rattle.strobe.specs.declared.flags.Flags.{Flags}
use Rattle.strobe.specs.declared.level.Level.TheVariants.{B128}
use Rattle.strobe.specs.declared.session.Outcome.{Outcome}
use Rattle.strobe.specs.declared.session.Session.{Session}

-- the protocol name `bench`, in ASCII
abbrev pub name : List ℕ
name = 0x62 ∷ 0x65 ∷ 0x6e ∷ 0x63 ∷ 0x68 ∷ []

-- a whole operation: `more` is off
abbrev pub called : Flags → Strobe → List ℕ → Effect
called f s bs = call (sponge_of B128) s f false bs

-- what n calls make of a fresh session and a buffer, each on what the one before it left
unfoldable pub turns : Flags → ℕ → List ℕ → Effect
turns f zero buf = record { answer = done; strobe = fresh (sponge_of B128) name; lent = buf }
turns f (suc n) buf = called f (turns f n buf).strobe (turns f n buf).lent

-- the two buffers behind the row
pub record Row (f : Flags) (times : ℕ) (buf out buf' out' : List ℕ) : Type 0 where
  pub lent : buf' ≡ (turns f times buf).lent
  pub last : out' ≡ (called PRF (turns f times buf).strobe out).lent

-- each call is the whole operation of these flags over `seen` of the buffer that it is lent
abbrev pub AlwaysCalls : Flags → (List ℕ → List ℕ) → (Session → MutBor (List ℕ) → Outcome → MutBor (List ℕ) → Type 0) → Type 0
AlwaysCalls f seen post =
    (s : Session) (b : MutBor (List ℕ)) (r : Outcome) (b' : MutBor (List ℕ)) → post s b r b' → Calls s f false (seen b.now) r (seen b'.now)
