-- Answers of calls and of the operations that they are joined into: all are 0 in the one just when they are in the other. Assumes nothing.
use Prim.Native.Nat.{ℕ}
use mathlib.Core.Path.{◌≡◌, refl}
use mathlib.Core.List.{List, [], ◌∷◌}
use mathlib.Core.Bool.{Bool, true, false, cond, ◌||◌}
use lib.Dec.{eqb}
use borrow.Author.Tests.{eqb-true, eqb-false, not-false}
use Rattle.strobe.specs.Answer.{done, mac_unequal, refuses}
use Rattle.replay.specs.Each.{Each}
use Rattle.replay.specs.History.{Entry, struck, Joined, begun, carried_on, joined}
use Rattle.replay.specs.Mirror.{Agrees}
use Rattle.replay.specs.Replay.{NoneRejected, CallsDone, OperationsDone}

-- ---- what is not struck out and rejects no MAC is done

pub struck-done : (es : List Entry) → NoneRejected es → CallsDone (struck es)
unfolding struck
struck-done [] n = tt
struck-done (e ∷ es) n = go (refuses e.answer) refl (struck-done es n.1)
  where
    zeroed : (t : Bool) → eqb e.answer done ≡ t → t || eqb e.answer mac_unequal ≡ true → e.answer ≡ done
    zeroed true p q = eqb-true e.answer done p
    zeroed false p q = absurd (n.0 (eqb-true e.answer mac_unequal q))

    go : (t : Bool) → refuses e.answer ≡ t → CallsDone (struck es) → CallsDone (cond t (struck es) (e ∷ struck es))
    go true h rest = rest
    go false h rest = (zeroed (eqb e.answer done) refl (not-false _ h), rest)

-- ---- joining

pub joined-done : (es : List Entry) (o : Joined) → o.answer ≡ done → CallsDone es → OperationsDone (joined o es)
unfolding joined
joined-done [] o z h = (z, tt)
joined-done (e ∷ es) o z h = go e.call.more (λ o z. joined-done es o z h.1)
  where
    go : (t : Bool) → ((o : Joined) → o.answer ≡ done → OperationsDone (joined o es))
        → OperationsDone (cond t (joined (carried_on o e) es) (o ∷ joined (begun e) es))
    go true ih = ih (carried_on o e) (rw z h.0)
    go false ih = (z, ih (begun e) h.0)

-- and back: the first answer that is not 0 would be the operation's
carried-back : (n m : ℕ) → cond (eqb n done) m n ≡ done → (n ≡ done) × (m ≡ done)
carried-back n m e = go (eqb n done) refl e
  where
    go : (t : Bool) → eqb n done ≡ t → cond t m n ≡ done → (n ≡ done) × (m ≡ done)
    go true h e = (eqb-true n done h, e)
    go false h e = absurd (eqb-false n done h e)

pub joined_back : (es : List Entry) (o : Joined) → OperationsDone (joined o es) → (o.answer ≡ done) × CallsDone es
unfolding joined
joined_back [] o h = (h.0, tt)
joined_back (e ∷ es) o h = go e.call.more h (joined_back es)
  where
    go : (t : Bool) → OperationsDone (cond t (joined (carried_on o e) es) (o ∷ joined (begun e) es))
        → ((o : Joined) → OperationsDone (joined o es) → (o.answer ≡ done) × CallsDone es) → (o.answer ≡ done) × CallsDone (e ∷ es)
    go true h ih =
        let r = ih (carried_on o e) h in
        let b = carried-back o.answer e.answer r.0 in
        (b.0, (b.1, r.1))
    go false h ih = let r = ih (begun e) h.1 in (h.0, (r.0, r.1))

pub agreed-done : (os ps : List Joined) → Each Agrees os ps → OperationsDone ps
agreed-done [] [] h = tt
agreed-done [] (p ∷ ps) h = absurd h
agreed-done (o ∷ os) [] h = absurd h
agreed-done (o ∷ os) (p ∷ ps) h = (h.0.answer, agreed-done os ps h.1)
