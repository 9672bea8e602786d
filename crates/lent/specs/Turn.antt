-- A seat's turn: one session through five calls.
use Rattle.std.specs.Prelude.{Bool, false, List, ◌≡◌, ℕ, replicate}
use Rattle.strobe.specs.Answer.{number}
use Rattle.strobe.specs.Flags.{AD, PRF, RATCHET}
use Rattle.strobe.specs.Session.{held, effect_on}
use Rattle.strobe.specs.declared.flags.Flags.{Flags}
use Rattle.strobe.specs.declared.session.Session.{Session}
use Rattle.saved.specs.Saved.{Saves}
use Rattle.lent.specs.declared.turn.Turn.{Turn}

-- the session that a call leaves
abbrev pub left : Session → Flags → Bool → List ℕ → Session
left s f more bs = held s.level (effect_on s f more bs).strobe

abbrev pub noted : Session → List ℕ → Session
noted s event = left s AD false event

abbrev pub called : Session → List ℕ → Flags → Bool → List ℕ → Session
called s event f more bs = left (noted s event) f more bs

abbrev pub drawn : Session → List ℕ → Flags → Bool → List ℕ → List ℕ → Session
drawn s event f more bs dice = left (called s event f more bs) PRF false dice

abbrev pub ratcheted : Session → List ℕ → Flags → Bool → List ℕ → List ℕ → ℕ → Session
ratcheted s event f more bs dice n = left (drawn s event f more bs dice) RATCHET false (replicate n 0)

pub record Turned (s : Session) (event : List ℕ) (f : Flags) (more : Bool) (bs dice : List ℕ) (n : ℕ) (form : List ℕ) (r : Turn) (bs' dice' form' : List ℕ) : Type 0 where
  pub note_answer : number r.noted ≡ (effect_on s AD false event).answer
  pub call_answer : number r.called ≡ (effect_on (noted s event) f more bs).answer
  pub lent : bs' ≡ (effect_on (noted s event) f more bs).lent
  pub draw_answer : number r.drawn ≡ (effect_on (called s event f more bs) PRF false dice).answer
  pub dice_lent : dice' ≡ (effect_on (called s event f more bs) PRF false dice).lent
  pub ratchet_answer : number r.ratcheted ≡ (effect_on (drawn s event f more bs dice) RATCHET false (replicate n 0)).answer
  pub session : r.session ≡ ratcheted s event f more bs dice n
  pub saves : Saves (ratcheted s event f more bs dice n) form r.saved form'
