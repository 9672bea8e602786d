-- The cases of docs/RULES.md, section 10, hold for every permutation, every name and every data: they depend on lengths alone, so zeros do for
-- the bytes, and at zeros the table is computed. Assumes nothing.
use Prim.Native.Nat.{ℕ}
use mathlib.Core.Path.{◌≡◌, refl, sym, ◌∙◌}
use mathlib.Core.List.{List, [], ◌∷◌, map}
use mathlib.Core.Bool.{Bool, true, false, not}
use lib.ListN.{length, replicate, length-replicate}
use borrow.Author.Tests.{not-true}
use Rattle.fips202.specs.Bytes.{keccak_f1600}
use Rattle.strobe.specs.Counting.{counting}
use Rattle.strobe.specs.Duplex.{Sponge, mix, padded, close_if_full, step, after}
use Rattle.strobe.specs.Every.{Every}
use Rattle.strobe.specs.Flags.{META_AD, operation_of, operation, is_recv_mac}
use Rattle.strobe.specs.Positions.{Deed, naming, calling, Row, table, sponge_with, bytes, before, effect, result, Holds}
use Rattle.strobe.specs.Session.{sponge_of}
use Rattle.strobe.specs.Strobe.{forced, begin_op, opened, well_formed, refusal, verdict, worked, settled, call, seed, unnamed, fresh}
use Rattle.strobe.specs.declared.level.Level.{Level}
use Rattle.strobe.proofs.Lengths.{Weight, weightless, marks, Matched, call_matched, call_answer_same, unnamed_matched, fresh_matched}

-- no MAC is received, whose answer would depend on its bytes
abbrev plain : Deed → Bool
plain naming = true
plain (calling f more n) = not (is_recv_mac (operation f))

module _ (name other bs cs : List ℕ) (l : length name ≡ length other) (m : length bs ≡ length cs) where
  module _ (sp : Sponge) (w : Weight sp) where
    before_matched : (d : Deed) → Matched w (before sp name d) (before sp other d)
    before_matched naming = unnamed_matched sp w
    before_matched (calling f more n) = fresh_matched sp w name other l

    effect_matched : (d : Deed) → Matched w (effect sp name bs d).strobe (effect sp other cs d).strobe
    effect_matched naming = call_matched sp w _ _ META_AD false name other l (unnamed_matched sp w)
    effect_matched (calling f more n) = call_matched sp w _ _ f more bs cs m (fresh_matched sp w name other l)

    answer_same : (d : Deed) → plain d ≡ true → (effect sp name bs d).answer ≡ (effect sp other cs d).answer
    unfolding operation operation_of
    answer_same naming e = call_answer_same sp w _ _ META_AD false name other l (unnamed_matched sp w) refl
    answer_same (calling f more n) e = call_answer_same sp w _ _ f more bs cs m (fresh_matched sp w name other l) (not-true _ e)

  result-same : (sp : Sponge) (d : Deed) → plain d ≡ true → result sp name bs d ≡ result sp other cs d
  unfolding result
  result-same sp d e =
      let k = counting sp in
      let t = (effect_matched sp (weightless sp) d).duplex in
      rw (answer_same sp (weightless sp) d e, t.pos, t.begin, (effect_matched k (marks sp) d).duplex.weight, (before_matched k (marks sp) d).duplex.weight)

-- ---- the table

abbrev AtZeros : (List ℕ → List ℕ) → Row → Type 0
AtZeros F c = result (sponge_with F c.level) (replicate c.name 0) (replicate (bytes c.deed) 0) c.deed ≡ c.result

from_zeros : (F : List ℕ → List ℕ) (rows : List Row) → map (λ (c : Row). plain c.deed) rows ≡ map (λ (c : Row). true) rows
    → Every (AtZeros F) rows → Every (Holds F) rows
from_zeros F [] p h = tt
from_zeros F (c ∷ cs) p h =
    let zeros : (n : ℕ) → n ≡ length {A = ℕ} (replicate n 0) = λ n. sym (length-replicate n 0) in
    (λ name bs l m. result-same name _ bs _ (l ∙ zeros c.name) (m ∙ zeros (bytes c.deed)) _ c.deed (cc) ∙ h.0, from_zeros F cs (cc) h.1)

-- at Keccak-f[1600] it is the sponge of the code's sessions
pub keccak_among_them : (l : Level) → sponge_with keccak_f1600 l ≡ sponge_of l
keccak_among_them l = refl

pub positions : (F : List ℕ → List ℕ) → Every (Holds F) table
unfolding table result fresh unnamed seed call settled worked verdict refusal well_formed opened begin_op forced after step close_if_full padded mix operation operation_of
positions F = from_zeros F table refl (refl, (refl, (refl, (refl, (refl, (refl, (refl, (refl, (refl, (refl, (refl, (refl, tt))))))))))))
