-- What `load` and `save` promise fixes one answer: two outcomes that meet it, and what they leave in a lent buffer, are equal. Assumes nothing.
use Prim.Native.Nat.{ℕ}
use mathlib.Core.Path.{◌≡◌}
use mathlib.Core.List.{List}
use Rattle.laws.proofs.Promise.{one_answer}
use Rattle.strobe.proofs.Promise.{number_one, is_one}
use Rattle.strobe.specs.Session.{Is}
use Rattle.strobe.specs.declared.answer.Answer.{Answer}
use Rattle.strobe.specs.declared.session.Outcome.{Outcome}
use Rattle.strobe.specs.declared.session.Session.{Session}
use Rattle.saved.specs.Saved.{loaded, Saves}

pub load_one_answer : (bs : List ℕ) {r q : Outcome} → Is (loaded bs) r → Is (loaded bs) q → r ≡ q
load_one_answer bs = is_one (loaded bs)

pub save_one_answer : (s : Session) (bs : List ℕ) {r q : Answer} {x y : List ℕ} → Saves s bs r x → Saves s bs q y → (r ≡ q) × (x ≡ y)
save_one_answer s bs {r} {q} i j = (number_one r q (one_answer i.answer j.answer), one_answer i.lent j.lent)
