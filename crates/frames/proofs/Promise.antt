-- A promise fixes one answer: two answers of a step that meet it take and write the same, and leave journals that stand at one place. From one place on
-- every answer is the same again. Assumes nothing.
use Prim.Native.Nat.{ℕ}
use mathlib.Core.Path.{◌≡◌, sym, ap, ◌∙◌}
use mathlib.Core.Bool.{Bool}
use mathlib.Core.List.{List}
use lib.ListN.{length}
use Rattle.laws.proofs.Promise.{one_answer}
use Rattle.frames.specs.Steps.{Place, Went, start, stepped, finished, is_ended, place_of, Steps}
use Rattle.frames.specs.declared.journal.Journal.{Journal}
use Rattle.frames.specs.declared.journal.Stepped.{Stepped}

-- what two answers have in common
pub record Alike (r q : Stepped) (out out' : List ℕ) : Type 0 where
  pub place : place_of r.journal ≡ place_of q.journal
  pub taken : r.taken ≡ q.taken
  pub put : r.put ≡ q.put
  pub lent : out ≡ out'

-- two promises of one thing
steps_one : (w v : Went) → w ≡ v → (out : List ℕ) (r q : Stepped) (x y : List ℕ) → Steps w out r x → Steps v out q y → Alike r q x y
steps_one w v e out r q x y i j =
    let k = rw (sym e) at j in
    record {
      place = one_answer i.place k.place;
      taken = one_answer i.taken k.taken;
      put = one_answer i.put k.put;
      lent = one_answer i.lent k.lent;
    }

pub new_one_answer : (j k : Journal) → place_of j ≡ start → place_of k ≡ start → place_of j ≡ place_of k
new_one_answer j k = one_answer

module _ (j k : Journal) (same : place_of j ≡ place_of k) (out : List ℕ) (r q : Stepped) (x y : List ℕ) where
  pub step_one_answer : (input : List ℕ) → Steps (stepped (place_of j) input (length out)) out r x → Steps (stepped (place_of k) input (length out)) out q y → Alike r q x y
  step_one_answer input = steps_one _ _ (ap (λ (p : Place). stepped p input (length out)) same) out r q x y

  pub finish_one_answer : Steps (finished (place_of j) (length out)) out r x → Steps (finished (place_of k) (length out)) out q y → Alike r q x y
  finish_one_answer = steps_one _ _ (ap (λ (p : Place). finished p (length out)) same) out r q x y

pub ended_one_answer : (j k : Journal) → place_of j ≡ place_of k → {x y : Bool} → x ≡ is_ended j.stage → y ≡ is_ended k.stage → x ≡ y
ended_one_answer j k same p q = p ∙ ap (λ (s : Place). is_ended s.stage) same ∙ sym q
