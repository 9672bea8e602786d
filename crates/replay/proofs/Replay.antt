-- Replay, over any sponge and any reload that keeps state, positions and direction. Assumes nothing.
use Prim.Native.Nat.{ℕ}
use mathlib.Core.Path.{◌≡◌, refl, sym, ap, ap₂, subst, subst₂}
use mathlib.Core.List.{List, [], ◌∷◌, map}
use Rattle.strobe.specs.Duplex.{Sponge, Duplex}
use Rattle.strobe.specs.Every.{Every}
use Rattle.strobe.specs.Flags.{rule_of}
use Rattle.strobe.specs.Strobe.{Strobe, begin_op, opened, verdict, worked, unnamed, fresh}
use Rattle.strobe.specs.declared.direction.Direction.{Direction}
use Rattle.replay.specs.Each.{Each}
use Rattle.replay.specs.History.{Act, Entry, ends, log, struck, Joined, naming, operations}
use Rattle.replay.specs.Mirror.{Mirrors, Agrees}
use Rattle.replay.specs.Reload.{Keeps}
use Rattle.replay.specs.Replay.{NoneRejected, OperationsDone, Replayed}
use Rattle.replay.specs.Rules.{strobe_rules, Request, end_of, made_by, made, end_after}
use Rattle.replay.specs.Usable.{Sound}
use Rattle.replay.specs.Whole.{OneOfTwenty, whole, Right, Course}
use Rattle.replay.proofs.Answers.{struck-done, joined-done, joined_back, agreed-done}
use Rattle.replay.proofs.Course.{course}
use Rattle.replay.proofs.Mirror.{Faces}
use Rattle.replay.proofs.Tables.{facing, strobe_rows}

-- ---- a course is operations taken whole

abbrev asked : Joined → Request
asked o = record { flags = o.flags; bytes = o.bytes }

module _ (sp : Sponge) where
  record Made (s : Strobe) (os : List Joined) (t : Strobe) : Type 0 where
    known : Every (λ (q : Request). OneOfTwenty q.flags) (map asked os)
    operations : os ≡ made strobe_rules sp (end_of s) (map asked os)
    end : end_of t ≡ end_after strobe_rules sp (end_of s) (map asked os)

  right_made : (s : Strobe) (o : Joined) → Right sp s o → o ≡ made_by strobe_rules sp (end_of s) (asked o)
  unfolding opened begin_op worked verdict
  right_made s o r = ap₂ (λ (bs : List ℕ) (n : ℕ). record { flags = o.flags; bytes = o.bytes; lent = bs; answer = n }) r.lent r.answer

  course_made : (os : List Joined) (s t : Strobe) → Course sp s os t → Made s os t
  unfolding made end_after opened begin_op worked verdict
  course_made [] s t c =
      record {
        known = tt;
        operations = refl;
        end = ap₂ (λ (d : Duplex) (dir : Direction). record { duplex = d; direction = dir }) c.0 c.1;
      }
  course_made (o ∷ os) s t c =
      let rest = course_made os (whole sp s o).strobe t c.1 in
      record {
        known = (c.0.one_of_twenty, rest.known);
        operations = ap₂ (λ (x : Joined) (xs : List Joined). x ∷ xs) (right_made s o c.0) rest.operations;
        end = rest.end;
      }

  -- ---- two courses, from two ends that face each other

  mirrored_courses : (os ps : List Joined) (s t s' t' : Strobe) → Faces (end_of s) (end_of t) → Course sp s os s' → Course sp t ps t'
      → OperationsDone os → Each Mirrors os ps → Each Agrees os ps × Faces (end_of s') (end_of t')
  mirrored_courses os ps s t s' t' f co cp z m =
      let o = course_made os s s' co in
      let p = course_made ps t t' cp in
      let w =
      facing rule_of strobe_rows sp (map asked os) (map asked ps) (end_of s) (end_of t) f o.known (subst OperationsDone o.operations z)
      (subst₂ (Each Mirrors) o.operations p.operations m) in (
        subst₂ (Each Agrees) (sym o.operations) (sym p.operations) w.0,
        subst₂ Faces (sym o.end) (sym p.end) w.1,
      )

  pub replay_courses : (name : List ℕ) (es fs : List Entry) (s t : Strobe)
      → Course sp (unnamed sp) (operations name es) s → Course sp (unnamed sp) (operations name fs) t
      → NoneRejected es → Each Mirrors (operations name es) (operations name fs) → Replayed sp name es fs s t
  unfolding operations unnamed
  replay_courses name es fs s t ce cf n m =
      let w =
      mirrored_courses (operations name es) (operations name fs) (unnamed sp) (unnamed sp) s t (record { duplex = refl; direction = refl }) ce cf
      (joined-done (struck es) (naming name) refl (struck-done es n)) m in
      record {
        accepts = (joined_back (struck fs) (naming name) (agreed-done (operations name es) (operations name fs) w.0)).1;
        agrees = w.0;
        state = ap (λ (d : Duplex). d.st) w.1.duplex;
        pos = ap (λ (d : Duplex). d.pos) w.1.duplex;
        begin = ap (λ (d : Duplex). d.begin) w.1.duplex;
        direction = w.1.direction;
        first_defined = ce;
        second_defined = cf;
      }

-- ---- replay

pub replay : {Edition : Type 0} (sp : Sponge) → Sound sp → (reloaded : Edition → Strobe → Strobe) → ((e : Edition) → Keeps sp (reloaded e))
    → (name : List ℕ) (a b : List (Act Edition))
    → let es = log sp reloaded (fresh sp name) a in
    let fs = log sp reloaded (fresh sp name) b in
    NoneRejected es → Each Mirrors (operations name es) (operations name fs)
    → Replayed sp name es fs (ends sp reloaded (fresh sp name) a) (ends sp reloaded (fresh sp name) b)
replay sp sound reloaded keeps name a b =
    replay_courses sp name (log sp reloaded (fresh sp name) a) (log sp reloaded (fresh sp name) b) _ _ (course sp sound reloaded keeps name a)
    (course sp sound reloaded keeps name b)
