-- What replay asks of the calls of an end, and what it concludes.
use Rattle.std.specs.Prelude.{false, List, ◌≢◌, ◌≡◌, ℕ}
use Rattle.strobe.specs.Answer.{done, mac_unequal, refuses}
use Rattle.strobe.specs.Duplex.{Sponge}
use Rattle.strobe.specs.Every.{Every}
use Rattle.strobe.specs.Strobe.{Strobe, unnamed}
use Rattle.replay.specs.Each.{Each}
use Rattle.replay.specs.History.{Entry, struck, Joined, operations}
use Rattle.replay.specs.Mirror.{Agrees, opposite}
use Rattle.replay.specs.Whole.{Course}

-- no call rejected a MAC
abbrev pub NoneRejected : List Entry → Type 0
NoneRejected es = Every (λ (e : Entry). e.answer ≢ mac_unequal) es

-- no call was refused
abbrev pub NoneRefused : List Entry → Type 0
NoneRefused es = Every (λ (e : Entry). refuses e.answer ≡ false) es

-- every call, every operation was answered 0
abbrev pub CallsDone : List Entry → Type 0
CallsDone es = Every (λ (e : Entry). e.answer ≡ done) es

abbrev pub OperationsDone : List Joined → Type 0
OperationsDone os = Every (λ (o : Joined). o.answer ≡ done) os

-- the calls es of the first end led to s, the calls fs of the second to t
pub record Replayed (sp : Sponge) (name : List ℕ) (es fs : List Entry) (s t : Strobe) : Type 0 where
  -- every call of the second that is not struck out is done: it accepts every MAC
  pub accepts : CallsDone (struck fs)
  -- it draws the same prf bytes, knows every plaintext, and sent what the first received
  pub agrees : Each Agrees (operations name es) (operations name fs)
  -- both end with equal state bytes and positions, facing each other
  pub state : t.duplex.st ≡ s.duplex.st
  pub pos : t.duplex.pos ≡ s.duplex.pos
  pub begin : t.duplex.begin ≡ s.duplex.begin
  pub direction : t.direction ≡ opposite s.direction
  -- all bytes and answers, of both ends, are those that the definition fixes
  pub first_defined : Course sp (unnamed sp) (operations name es) s
  pub second_defined : Course sp (unnamed sp) (operations name fs) t
