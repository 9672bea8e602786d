-- What the bytes of a line ask for, and what is answered (docs/JOURNAL.md, sections 2 and 3). Shape is tested before anything else.
use Rattle.std.specs.Prelude.{Bool, true, false, cond, ◌&&◌, List, [], ◌∷◌, ℕ, ◌+◌, ◌*◌, eqb, leb, length, replicate}
use Rattle.strobe.specs.Answer.{done, bad_line}
use Rattle.strobe.specs.Flags.{flags, operation}
use Rattle.strobe.specs.Session.{created, effect_on, held}
use Rattle.strobe.specs.declared.flags.Flags.{Flags}
use Rattle.strobe.specs.declared.flags.Operation.{Operation}
use Rattle.strobe.specs.declared.flags.Operation.TheVariants.{Ad, Ratchet, Key, Prf, SendClr, RecvClr, SendMac, RecvMac, SendEnc, RecvEnc, Unknown}
use Rattle.strobe.specs.declared.session.Session.{Session}
use Rattle.frames.specs.Hexadecimal.{Read, misshapen, bytes}

-- the bytes of a protocol name or of a payload, and the count of a prf or a send_mac, are at most so many
abbrev pub limit : ℕ
limit = 4096

-- what comes of a line: the answer, the session, and what is shown of the buffer
pub record Said : Type 0 where
  pub answer : ℕ
  pub session : Session
  pub shown : List ℕ

-- out of shape: nothing is done
abbrev pub refused : Session → Said
refused s = record { answer = bad_line; session = s; shown = [] }

-- ---- section 2: the first line

-- the level of a level byte; 0 is none
abbrev pub level_of : ℕ → ℕ
level_of b = cond (eqb b 0x01) 128 (cond (eqb b 0x02) 256 0)

-- STROBE's creation by number
abbrev pub creating : List ℕ → ℕ → Said
creating name level =
    let g = created name level in
    record { answer = g.answer; session = g.session; shown = [] }

-- a level byte and a protocol name
unfoldable pub opening : Session → Read → Said
opening s misshapen = refused s
opening s (bytes []) = refused s
opening s (bytes (level ∷ name)) = cond (leb (length name) limit) (creating name (level_of level)) (refused s)

-- ---- section 3: the other lines

-- four bytes, the highest first
unfoldable pub big_endian : ℕ → List ℕ → ℕ
big_endian n [] = n
big_endian n (b ∷ bs) = big_endian (n * 256 + b) bs

abbrev pub count_of : List ℕ → ℕ
count_of payload = big_endian 0 payload

-- a payload that is a count asks for a buffer of so many bytes
unfoldable pub counted : List ℕ → Bool → Read
counted payload small = cond (eqb (length payload) 4 && small) (bytes (replicate (count_of payload) 0)) misshapen

-- the buffer of a call
abbrev pub buffer_of : Operation → List ℕ → Read
buffer_of Ad payload = bytes payload
buffer_of Ratchet payload = counted payload true
buffer_of Key payload = bytes payload
buffer_of Prf payload = counted payload (leb (count_of payload) limit)
buffer_of SendClr payload = bytes payload
buffer_of RecvClr payload = bytes payload
buffer_of SendMac payload = counted payload (leb (count_of payload) limit)
buffer_of RecvMac payload = bytes payload
buffer_of SendEnc payload = bytes payload
buffer_of RecvEnc payload = bytes payload
buffer_of Unknown payload = bytes payload

-- the operations whose buffer is shown
abbrev pub shows : Operation → Bool
shows Ad = false
shows Ratchet = false
shows Key = false
shows Prf = true
shows SendClr = false
shows RecvClr = false
shows SendMac = true
shows RecvMac = false
shows SendEnc = true
shows RecvEnc = true
shows Unknown = false

-- STROBE's call by number
unfoldable pub calling : Session → Flags → Bool → Read → Said
calling s f more misshapen = refused s
calling s f more (bytes buffer) =
    let e = effect_on s f more buffer in
    record {
      answer = e.answer;
      session = held s.level e.strobe;
      shown = cond (eqb e.answer done && shows (operation f)) e.lent [];
    }

-- a flag byte, a `more` byte, a payload
unfoldable pub framed : Session → Read → Said
framed s misshapen = refused s
framed s (bytes []) = refused s
framed s (bytes (f ∷ [])) = refused s
framed s (bytes (f ∷ more ∷ payload)) =
    cond (leb more 1 && leb (length payload) limit)
    (calling s (flags f) (eqb more 1) (buffer_of (operation (flags f)) payload))
    (refused s)
