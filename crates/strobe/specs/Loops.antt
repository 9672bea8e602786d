-- What the private byte loops ask and give, for Keccak-f[1600] at a rate, and what a call does around its work. Nothing here is to be believed: no promise of a public function cites it.
use Rattle.std.specs.Borrow.{MutBor}
use Rattle.std.specs.Fn.{Mut, CalledAtMut}
use Rattle.std.specs.Prelude.{Bool, false, ◌||◌, List, [], ◌∷◌, ◌≡◌, ℕ, zero, suc, ◌+◌, eqb, get_or, set}
use Rattle.strobe.specs.Answer.{number}
use Rattle.strobe.specs.Duplex.{Duplex, Rule, after, out, met, same}
use Rattle.strobe.specs.Flags.{AD, RATCHET, KEY, PRF, SEND_CLR, RECV_CLR, SEND_MAC, RECV_MAC, SEND_ENC, RECV_ENC, META_AD, META_RATCHET, META_KEY, META_PRF, META_SEND_CLR, META_RECV_CLR, META_SEND_MAC, META_RECV_MAC, META_SEND_ENC, META_RECV_ENC}
use Rattle.strobe.specs.Session.{rate_of, sponge, sponge_of, seen, held}
use Rattle.strobe.specs.Strobe.{Strobe, opened, refusal}
use Rattle.strobe.specs.declared.answer.Answer.{Answer}
use Rattle.strobe.specs.declared.session.Session.{Session}
use Rattle.strobe.specs.declared.session.Outcome.{Outcome}
use Rattle.strobe.specs.declared.opening.Open.{Open}
use Rattle.strobe.specs.declared.flags.Flags.{Flags}
use Rattle.strobe.specs.declared.duplex.State.{State}

abbrev pub at : List ℕ → ℕ → ℕ → Duplex
at st pos begin = record { st = st; pos = pos; begin = begin }

abbrev pub duplex_of : State → Duplex
duplex_of s = at s.bytes s.pos s.begin

-- a state becomes a duplex, at the rate that it had
pub record Becomes (s : State) (d : Duplex) (s' : State) : Type 0 where
  pub duplex : duplex_of s' ≡ d
  pub rate : s'.rate ≡ s.rate

-- a rule went over bytes that are only read
abbrev pub Fed : Rule → State → List ℕ → State → Type 0
Fed r s bs s' = Becomes s (after (sponge s.rate) r (duplex_of s) bs) s'

-- a rule went over a lent buffer
pub record Ran (r : Rule) (s : State) (bs : List ℕ) (s' : State) (bs' : List ℕ) : Type 0 where
  pub fed : Fed r s bs s'
  pub lent : bs' ≡ out (sponge s.rate) r (duplex_of s) bs

-- the test of a received MAC: the bytes are taken in, and were the state's
pub record Tested (r : Rule) (s : State) (bs : List ℕ) (s' : State) (t : Bool) : Type 0 where
  pub fed : Fed r s bs s'
  pub same : t ≡ same (met (sponge s.rate) r (duplex_of s) bs) bs

-- bytes that stay within a block, from a position on: no test for a full block
unfoldable pub part : Rule → List ℕ → ℕ → List ℕ → List ℕ
part r st pos [] = st
part r st pos (b ∷ bs) = part r (set st pos (r.state (get_or st pos 0) b)) (pos + 1) bs

unfoldable pub part_out : Rule → List ℕ → ℕ → List ℕ → List ℕ
part_out r st pos [] = []
part_out r st pos (b ∷ bs) = r.buffer (get_or st pos 0) b ∷ part_out r (set st pos (r.state (get_or st pos 0) b)) (pos + 1) bs

pub record Parted (r : Rule) (st : List ℕ) (pos : ℕ) (bs : List ℕ) (st' : List ℕ) (bs' : List ℕ) : Type 0 where
  pub state : st' ≡ part r st pos bs
  pub lent : bs' ≡ part_out r st pos bs

-- ---- what a call's helpers ask and give

abbrev pub among : List Flags → Flags → Bool
among [] f = false
among (g ∷ gs) f = eqb f.0 g.0 || among gs f

-- the operations that only take the lent bytes in, those that change them, and the two others
abbrev pub takers : List Flags
takers = AD ∷ KEY ∷ SEND_CLR ∷ RECV_CLR ∷ META_AD ∷ META_KEY ∷ META_SEND_CLR ∷ META_RECV_CLR ∷ []

abbrev pub changers : List Flags
changers = PRF ∷ SEND_MAC ∷ SEND_ENC ∷ RECV_ENC ∷ META_PRF ∷ META_SEND_MAC ∷ META_SEND_ENC ∷ META_RECV_ENC ∷ []

abbrev pub macs : List Flags
macs = RECV_MAC ∷ META_RECV_MAC ∷ []

abbrev pub ratchets : List Flags
ratchets = RATCHET ∷ META_RATCHET ∷ []

-- what an opened session is, as the definitions see it
abbrev pub strobe_of : Open → Strobe
strobe_of o = record { duplex = duplex_of o.state; direction = o.direction; last = o.last }

-- ---- a call, whatever its work

module _ {W : Type 0} (g : Mut W (MutBor State × Unit {0}) (Answer × (MutBor State × Unit {0}))) where
  -- the work leaves each state at its rate
  abbrev pub KeepsRate : Type 0
  KeepsRate = (w : W) (s : State) (a : Answer) (w' : W) (s' : State) → CalledAtMut g w s a w' s' → s'.rate ≡ s.rate

  -- the work was done once, on the opened session's state
  pub record Worked (s : Session) (f : Flags) (more : Bool) (w : W) (r : Outcome) (w' : W) : Type 0 where
    pub begun : Open
    pub strobe : strobe_of begun ≡ opened (sponge_of s.level) (seen s) f more
    pub level : begun.level ≡ s.level
    pub left : State
    pub called : CalledAtMut g w begun.state r.answer w' left
    pub session : r.session ≡ held s.level (record { duplex = duplex_of left; direction = begun.direction; last = begun.last })

  -- by the refusal's number: with one, no work was done
  abbrev pub Settles : ℕ → Session → Flags → Bool → W → Outcome → W → Type 0
  Settles zero s f more w r w' = Worked s f more w r w'
  Settles (suc n) s f more w r w' = (number r.answer ≡ suc n) × (r.session ≡ s) × (w' ≡ w)

  pub record Operates (s : Session) (f : Flags) (more : Bool) (n : ℕ) (w : W) (r : Outcome) (w' : W) : Type 0 where
    pub settled : Settles (refusal (rate_of s.level) (seen s) f more n) s f more w r w'
