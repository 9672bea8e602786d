-- Any cutting gives the same: two runs of one end, whose operations have the same flags and joined bytes, have the same operations altogether, and come to
-- the same state, positions and direction. Assumes nothing.
use Prim.Native.Nat.{ℕ}
use mathlib.Core.Path.{◌≡◌, refl, sym, ap, ap₂, ◌∙◌, subst}
use mathlib.Core.List.{List, [], ◌∷◌}
use Rattle.strobe.specs.Duplex.{Sponge}
use Rattle.strobe.specs.Strobe.{Strobe, Effect, unnamed, fresh}
use Rattle.strobe.specs.declared.flags.Flags.{Flags}
use Rattle.replay.specs.Alike.{Alike, Same}
use Rattle.replay.specs.Each.{Each}
use Rattle.replay.specs.History.{Act, ends, log, Joined, operations}
use Rattle.replay.specs.Reload.{Keeps}
use Rattle.replay.specs.Usable.{Sound}
use Rattle.replay.specs.Whole.{whole, Right, Course}
use Rattle.replay.proofs.Course.{course}

module _ (sp : Sponge) where
  whole_alike : (s : Strobe) (o p : Joined) → Alike o p → whole sp s p ≡ whole sp s o
  whole_alike s o p h = rw (h.flags, h.bytes)

  same-joined : (s : Strobe) (o p : Joined) → Alike o p → Right sp s o → Right sp s p → p ≡ o
  same-joined s o p h r q =
      let e : whole sp s p ≡ whole sp s o = whole_alike s o p h in
      ap₂ (λ (f : Flags) (bs : List ℕ). record { flags = f; bytes = bs; lent = p.lent; answer = p.answer }) h.flags h.bytes
      ∙ ap₂ (λ (bs : List ℕ) (n : ℕ). record { flags = o.flags; bytes = o.bytes; lent = bs; answer = n })
      (q.lent ∙ ap (λ (x : Effect). x.lent) e ∙ sym r.lent)
      (q.answer ∙ ap (λ (x : Effect). x.answer) e ∙ sym r.answer)

  same_course : (os ps : List Joined) (s s' t' : Strobe) → Course sp s os s' → Course sp s ps t' → Each Alike os ps → Same os ps s' t'
  same_course [] [] s s' t' c d h = record { operations = refl; duplex = d.0 ∙ sym c.0; direction = d.1 ∙ sym c.1 }
  same_course [] (p ∷ ps) s s' t' c d h = absurd h
  same_course (o ∷ os) [] s s' t' c d h = absurd h
  same_course (o ∷ os) (p ∷ ps) s s' t' c d h =
      let next : Course sp (whole sp s o).strobe ps t' = subst (λ (x : Effect). Course sp x.strobe ps t') (whole_alike s o p h.0) d.1 in
      let rest = same_course os ps (whole sp s o).strobe s' t' c.1 next h.1 in
      record {
        operations = ap₂ (λ (x : Joined) (xs : List Joined). x ∷ xs) (same-joined s o p h.0 c.0 d.0) rest.operations;
        duplex = rest.duplex;
        direction = rest.direction;
      }

pub cut_anywhere : {Edition : Type 0} (sp : Sponge) → Sound sp → (reloaded : Edition → Strobe → Strobe) → ((e : Edition) → Keeps sp (reloaded e))
    → (name : List ℕ) (a b : List (Act Edition))
    → let os = operations name (log sp reloaded (fresh sp name) a) in
    let ps = operations name (log sp reloaded (fresh sp name) b) in
    Each Alike os ps → Same os ps (ends sp reloaded (fresh sp name) a) (ends sp reloaded (fresh sp name) b)
cut_anywhere sp sound reloaded keeps name a b =
    same_course sp (operations name (log sp reloaded (fresh sp name) a)) (operations name (log sp reloaded (fresh sp name) b)) (unnamed sp) _ _
    (course sp sound reloaded keeps name a) (course sp sound reloaded keeps name b)
