-- The saved form in its two editions (docs/FORMATS.md, section 1): its bytes, what a load makes of any bytes, what a save does.
use Rattle.std.specs.Prelude.{Option, Some, None, Bool, not, cond, ◌&&◌, ◌||◌, List, [], ◌∷◌, ◌++◌, ◌≡◌, ℕ, eqb, leb, ltb, length, get_or, take, drop}
use Rattle.strobe.specs.Answer.{number, done, not_a_session, bad_saved, short_buffer}
use Rattle.strobe.specs.Flags.{flags}
use Rattle.strobe.specs.Session.{rate_of, seen, Given, given, blank}
use Rattle.strobe.specs.Strobe.{known_last, well_formed}
use Rattle.strobe.specs.declared.answer.Answer.{Answer}
use Rattle.strobe.specs.declared.direction.Direction.{Direction}
use Rattle.strobe.specs.declared.direction.Direction.TheVariants.{Neither, Sender, Receiver}
use Rattle.strobe.specs.declared.last.Last.{Last}
use Rattle.strobe.specs.declared.last.Last.TheVariants.{Nothing, Op}
use Rattle.strobe.specs.declared.level.Level.{Level}
use Rattle.strobe.specs.declared.level.Level.TheVariants.{B128, B256}
use Rattle.strobe.specs.declared.session.Session.{Session}

-- ---- the editions

pub data Edition : Type 0 where
  edition1 edition2 : Edition

-- the first byte
abbrev pub number_of : Edition → ℕ
number_of edition1 = 1
number_of edition2 = 2

abbrev pub size_of : Edition → ℕ
size_of edition1 = 205
size_of edition2 = 206

-- the one that a save writes
abbrev pub newest : Edition
newest = edition2

-- ---- the bytes in their order: edition, level, position, begin position, direction, state, and in edition 2 the last operation

abbrev pub level_byte : Level → ℕ
level_byte B128 = 1
level_byte B256 = 2

abbrev pub direction_byte : Direction → ℕ
direction_byte Neither = 0
direction_byte Sender = 1
direction_byte Receiver = 2

-- no operation's flags
abbrev pub no_last : ℕ
no_last = 0xff

abbrev pub last_byte : Last → ℕ
last_byte Nothing = no_last
last_byte (Op f) = f.0

-- behind the state
abbrev pub tail : Edition → Session → List ℕ
tail edition1 s = []
tail edition2 s = last_byte s.last ∷ []

unfoldable pub form : Edition → Session → List ℕ
form e s = number_of e ∷ level_byte s.level ∷ s.pos ∷ s.begin ∷ direction_byte s.direction ∷ (s.state ++ tail e s)

-- ---- a load

abbrev pub byte_at : List ℕ → ℕ → ℕ
byte_at bs i = get_or bs i 0

abbrev pub is_level : ℕ → Bool
is_level b = eqb b (level_byte B128) || eqb b (level_byte B256)

abbrev pub is_direction : ℕ → Bool
is_direction b = leb b (direction_byte Receiver)

-- the next two are asked only of bytes that fit
abbrev pub level_of : ℕ → Level
level_of b = cond (eqb b (level_byte B128)) B128 B256

abbrev pub direction_of : ℕ → Direction
direction_of b = cond (eqb b (direction_byte Neither)) Neither (cond (eqb b (direction_byte Sender)) Sender Receiver)

-- of any byte; `fits` tests what comes of it
abbrev pub last_of : ℕ → Last
last_of b = cond (eqb b no_last) Nothing (Op (flags b))

-- so many bytes, with a number in front
unfoldable pub is_numbered : ℕ → ℕ → List ℕ → Bool
is_numbered number size bs = eqb (length bs) size && eqb (byte_at bs 0) number

abbrev pub is_edition : Edition → List ℕ → Bool
is_edition e bs = is_numbered (number_of e) (size_of e) bs

-- a level's byte, a position below that level's rate, a begin position at most the position, a direction's byte, and FF or one of the twenty
unfoldable pub fits : ℕ → ℕ → ℕ → ℕ → ℕ → Bool
fits level pos begin direction last =
    is_level level && (ltb pos (rate_of (level_of level)) && (leb begin pos && (is_direction direction && known_last (last_of last))))

-- the session in the bytes of a form; `last` is the byte of its last operation
unfoldable pub session_in : List ℕ → ℕ → Session
session_in bs last =
    record {
      state = take 200 (drop 5 bs);
      level = level_of (byte_at bs 1);
      pos = byte_at bs 2;
      begin = byte_at bs 3;
      direction = direction_of (byte_at bs 4);
      last = last_of last;
    }

unfoldable pub loaded_with : List ℕ → ℕ → Given
loaded_with bs last =
    cond (fits (byte_at bs 1) (byte_at bs 2) (byte_at bs 3) (byte_at bs 4) last) (given done (session_in bs last)) (given bad_saved blank)

-- that byte, by edition; edition 1 has none and sets no last operation
abbrev pub last_in : Edition → List ℕ → ℕ
last_in edition1 bs = no_last
last_in edition2 bs = byte_at bs 205

unfoldable pub loaded : List ℕ → Given
loaded bs =
    cond (is_edition edition2 bs) (loaded_with bs (last_in edition2 bs))
    (cond (is_edition edition1 bs) (loaded_with bs (last_in edition1 bs))
    (given bad_saved blank))

-- what a load makes of the session that it read, or of none
abbrev pub answered : Option Session → Given
answered (Some s) = given done s
answered None = given bad_saved blank

-- a session with another last operation
abbrev pub with_last : Session → Last → Session
with_last s last =
    record { state = s.state; level = s.level; pos = s.pos; begin = s.begin; direction = s.direction; last = last }

-- what a load gives back of a session, by the edition of its form
abbrev pub kept_by : Edition → Session → Session
kept_by edition1 s = with_last s Nothing
kept_by edition2 s = s

-- ---- a save

-- the answer and the lent bytes; the session stays as it was
pub record Saving : Type 0 where
  pub answer : ℕ
  pub lent : List ℕ

-- 8, then 11; a longer buffer keeps its rest
unfoldable pub saving : Session → List ℕ → Saving
saving s bs =
    cond (not (well_formed (rate_of s.level) (seen s))) (record { answer = not_a_session; lent = bs })
    (cond (ltb (length bs) (size_of newest)) (record { answer = short_buffer; lent = bs })
    (record { answer = done; lent = form newest s ++ drop (size_of newest) bs }))

-- ---- what `save` promises

pub record Saves (s : Session) (bs : List ℕ) (r : Answer) (bs' : List ℕ) : Type 0 where
  pub answer : number r ≡ (saving s bs).answer
  pub lent : bs' ≡ (saving s bs).lent
