-- The promises on a lent session fix one answer: the session that is left, the report or the turn, and every lent byte. Assumes nothing.
use Prim.Native.Nat.{ℕ}
use mathlib.Core.Path.{◌≡◌, ap}
use mathlib.Core.List.{List}
use mathlib.Core.Bool.{Bool}
use Rattle.laws.proofs.Promise.{one_answer}
use Rattle.strobe.proofs.Promise.{number_one, call_one_answer}
use Rattle.strobe.specs.Session.{Calls}
use Rattle.strobe.specs.declared.flags.Flags.{Flags}
use Rattle.strobe.specs.declared.session.Outcome.{Outcome}
use Rattle.strobe.specs.declared.session.Session.{Session}
use Rattle.lent.specs.Lent.{outcome}
use Rattle.lent.specs.Turn.{Turned}
use Rattle.lent.specs.declared.Report.{Report}
use Rattle.lent.specs.declared.turn.Turn.{Turn}

-- the call by number, and at their flags the operations by name
pub lent_one_answer : (s : Session) (f : Flags) (more : Bool) (bs : List ℕ) {z w : Session} {r q : Report} {x y : List ℕ}
    → Calls s f more bs (outcome z r) x → Calls s f more bs (outcome w q) y → (z ≡ w) × (r ≡ q) × (x ≡ y)
lent_one_answer s f more bs {z} {w} {r} {q} i j =
    let one = call_one_answer s f more bs i j in
    (ap (λ (o : Outcome). o.session) one.0, ap (λ (o : Outcome). record { answer = o.answer }) one.0, one.1)

pub take_turn_one_answer : (s : Session) (event : List ℕ) (f : Flags) (more : Bool) (bs dice : List ℕ) (n : ℕ) (form : List ℕ) {r q : Turn} {x x' y y' z z' : List ℕ}
    → Turned s event f more bs dice n form r x y z → Turned s event f more bs dice n form q x' y' z' → (r ≡ q) × (x ≡ x') × (y ≡ y') × (z ≡ z')
take_turn_one_answer s event f more bs dice n form {r} {q} t u =
    let session-one : r.session ≡ q.session = one_answer t.session u.session in
    let noted_one : r.noted ≡ q.noted = number_one r.noted q.noted (one_answer t.note_answer u.note_answer) in
    let called-one : r.called ≡ q.called = number_one r.called q.called (one_answer t.call_answer u.call_answer) in
    let drawn-one : r.drawn ≡ q.drawn = number_one r.drawn q.drawn (one_answer t.draw_answer u.draw_answer) in
    let ratcheted-one : r.ratcheted ≡ q.ratcheted = number_one r.ratcheted q.ratcheted (one_answer t.ratchet_answer u.ratchet_answer) in
    let saved-one : r.saved ≡ q.saved = number_one r.saved q.saved (one_answer t.saves.answer u.saves.answer) in (
      λ i. record { session = session-one i; noted = noted_one i; called = called-one i; drawn = drawn-one i; ratcheted = ratcheted-one i; saved = saved-one i },
      one_answer t.lent u.lent,
      one_answer t.dice_lent u.dice_lent,
      one_answer t.saves.lent u.saves.lent,
    )
