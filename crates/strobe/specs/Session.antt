-- Sessions over Keccak-f[1600], as the code holds them: the two levels, the blank, creation by number, the version text (docs/RULES.md, sections 2, 7 and 9),
-- and what the public functions promise.
use Rattle.std.specs.Prelude.{Bool, cond, Result, Ok, Err, List, [], ◌∷◌, ◌++◌, ◌≡◌, ℕ, eqb, replicate}
use Rattle.fips202.specs.Bytes.{keccak_f1600}
use Rattle.strobe.specs.Answer.{number, done, no_level}
use Rattle.strobe.specs.Duplex.{Sponge}
use Rattle.strobe.specs.Strobe.{Strobe, Effect, call, fresh}
use Rattle.strobe.specs.declared.answer.Answer.{Answer}
use Rattle.strobe.specs.declared.answer.Answer.TheVariants.{NoLevel}
use Rattle.strobe.specs.declared.flags.Flags.{Flags}
use Rattle.strobe.specs.declared.level.Level.{Level}
use Rattle.strobe.specs.declared.level.Level.TheVariants.{B128, B256}
use Rattle.strobe.specs.declared.direction.Direction.TheVariants.{Neither}
use Rattle.strobe.specs.declared.last.Last.TheVariants.{Nothing}
use Rattle.strobe.specs.declared.session.Session.{Session}
use Rattle.strobe.specs.declared.session.Outcome.{Outcome}

abbrev pub rate_of : Level → ℕ
rate_of B128 = 166
rate_of B256 = 134

-- Keccak-f[1600] at a rate
abbrev pub sponge : ℕ → Sponge
sponge rate = record { perm = keccak_f1600; rate = rate; size = 200 }

abbrev pub sponge_of : Level → Sponge
sponge_of l = sponge (rate_of l)

-- ---- the struct, as the definitions see it, and back

abbrev pub seen : Session → Strobe
seen s =
    record {
      duplex = record { st = s.state; pos = s.pos; begin = s.begin };
      direction = s.direction;
      last = s.last;
    }

abbrev pub held : Level → Strobe → Session
held l s =
    record {
      state = s.duplex.st;
      level = l;
      pos = s.duplex.pos;
      begin = s.duplex.begin;
      direction = s.direction;
      last = s.last;
    }

-- ---- creation

-- what a creation, a load or a call hands back
pub record Given : Type 0 where
  pub answer : ℕ
  pub session : Session

abbrev pub given : ℕ → Session → Given
given n s = record { answer = n; session = s }

-- `new`
abbrev pub fresh_at : Level → List ℕ → Given
fresh_at l name = given done (held l (fresh (sponge_of l) name))

-- section 2: not well formed, so that every call on it gets 8
abbrev pub blank : Session
blank =
    record { state = replicate 200 0; level = B128; pos = 166; begin = 166; direction = Neither; last = Nothing }

-- the level of a number
abbrev pub LevelNumber : ℕ → Result Level Answer → Type 0
LevelNumber n r = r ≡ cond (eqb n 128) (Ok B128) (cond (eqb n 256) (Ok B256) (Err NoLevel))

-- by level number
unfoldable pub created : List ℕ → ℕ → Given
created name n = cond (eqb n 128) (fresh_at B128 name) (cond (eqb n 256) (fresh_at B256 name) (given no_level blank))

-- ---- section 9: the version text

-- 128 or 256, in ASCII
abbrev pub level_text : Level → List ℕ
level_text B128 = 0x31 ∷ 0x32 ∷ 0x38 ∷ []
level_text B256 = 0x32 ∷ 0x35 ∷ 0x36 ∷ []

-- Strobe-Keccak-128/1600-v1.0.2, or the same with 256
abbrev pub version_text : Level → List ℕ
version_text l =
    (0x53 ∷ 0x74 ∷ 0x72 ∷ 0x6f ∷ 0x62 ∷ 0x65 ∷ 0x2d ∷ 0x4b ∷ 0x65 ∷ 0x63 ∷ 0x63 ∷ 0x61 ∷ 0x6b ∷ 0x2d ∷ [])
    ++ level_text l
    ++ (0x2f ∷ 0x31 ∷ 0x36 ∷ 0x30 ∷ 0x30 ∷ 0x2d ∷ 0x76 ∷ 0x31 ∷ 0x2e ∷ 0x30 ∷ 0x2e ∷ 0x32 ∷ [])

-- ---- the promises

-- an outcome is what was to be given, its answer by number
pub record Is (g : Given) (r : Outcome) : Type 0 where
  pub answer : number r.answer ≡ g.answer
  pub session : r.session ≡ g.session

-- an outcome and the lent bytes are a call's effect on a session of this level
pub record Comes (l : Level) (e : Effect) (r : Outcome) (bs' : List ℕ) : Type 0 where
  pub outcome : Is (given e.answer (held l e.strobe)) r
  pub lent : bs' ≡ e.lent

-- what comes of a call on a session
abbrev pub effect_on : Session → Flags → Bool → List ℕ → Effect
effect_on s f more bs = call (sponge_of s.level) (seen s) f more bs

-- the call by number, and each operation by name
abbrev pub Calls : Session → Flags → Bool → List ℕ → Outcome → List ℕ → Type 0
Calls s f more bs r bs' = Comes s.level (effect_on s f more bs) r bs'
