-- A seat's turn is what its five calls say, one after another. Assumes nothing.
use Prim.Native.Nat.{ℕ}
use mathlib.Core.List.{List}
use mathlib.Core.Bool.{Bool, false}
use lib.ListN.{replicate}
use Rattle.strobe.specs.Flags.{AD, PRF, RATCHET}
use Rattle.strobe.specs.Session.{Calls}
use Rattle.strobe.specs.declared.answer.Answer.{Answer}
use Rattle.strobe.specs.declared.flags.Flags.{Flags}
use Rattle.strobe.specs.declared.session.Session.{Session}
use Rattle.saved.specs.Saved.{Saves}
use Rattle.lent.specs.Lent.{outcome}
use Rattle.lent.specs.Turn.{Turned}
use Rattle.lent.specs.declared.Report.{Report}

module _ {s : Session} {event : List ℕ} {f : Flags} {more : Bool} {bs dice : List ℕ} {n : ℕ} {form : List ℕ} where
  -- each call begins at the session that the one before it left, and a promise says which one that is
  pub turned : {z₁ z₂ z₃ z₄ : Session} {r₁ r₂ r₃ r₄ : Report} {a : Answer} {bs' dice' form' : List ℕ}
      → Calls s AD false event (outcome z₁ r₁) event → Calls z₁ f more bs (outcome z₂ r₂) bs' → Calls z₂ PRF false dice (outcome z₃ r₃) dice' → Calls z₃ RATCHET false (replicate n 0) (outcome z₄ r₄) (replicate n 0) → Saves z₄ form a form'
      → Turned s event f more bs dice n form (record { session = z₄; noted = r₁.answer; called = r₂.answer; drawn = r₃.answer; ratcheted = r₄.answer; saved = a }) bs' dice' form'
  turned ad-says from-z₁ from-z₂ from-z₃ from-z₄ =
      let call-says = rw ad-says.outcome.session at from-z₁ in
      let prf-says = rw call-says.outcome.session at from-z₂ in
      let ratchet-says = rw prf-says.outcome.session at from-z₃ in
      record {
        note_answer = ad-says.outcome.answer;
        call_answer = call-says.outcome.answer;
        lent = call-says.lent;
        draw_answer = prf-says.outcome.answer;
        dice_lent = prf-says.lent;
        ratchet_answer = ratchet-says.outcome.answer;
        session = ratchet-says.outcome.session;
        saves = rw ratchet-says.outcome.session at from-z₄;
      }
