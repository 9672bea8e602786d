-- A history: the calls that one end made with what came of them, the refused ones struck out, and the pieces joined into operations.
use Rattle.std.specs.Prelude.{cond, List, [], ◌∷◌, ◌++◌, ℕ, eqb}
use Rattle.strobe.specs.Answer.{done, refuses}
use Rattle.strobe.specs.Duplex.{Sponge}
use Rattle.strobe.specs.Flags.{META_AD}
use Rattle.strobe.specs.Runs.{Call, effect}
use Rattle.strobe.specs.Strobe.{Strobe, Effect}
use Rattle.strobe.specs.declared.flags.Flags.{Flags}

-- what an end does: it makes a call, or it is saved in an edition of the saved form and loaded again
pub data Act (Edition : Type 0) : Type 0 where
  ask : Call → Act Edition
  reload : Edition → Act Edition

-- a call and what came of it: the answer, and what the bytes that it was lent have become
pub record Entry : Type 0 where
  pub call : Call
  pub answer : ℕ
  pub lent : List ℕ

abbrev pub entry : Call → Effect → Entry
entry c e = record { call = c; answer = e.answer; lent = e.lent }

-- ---- a run; `reloaded` is what a save and a load make of a session

module _ {Edition : Type 0} (sp : Sponge) (reloaded : Edition → Strobe → Strobe) where
  -- the session at its end
  unfoldable pub ends : Strobe → List (Act Edition) → Strobe
  ends s [] = s
  ends s (ask c ∷ acts) = ends (effect sp s c).strobe acts
  ends s (reload e ∷ acts) = ends (reloaded e s) acts

  -- its calls with what came of them
  unfoldable pub log : Strobe → List (Act Edition) → List Entry
  log s [] = []
  log s (ask c ∷ acts) = entry c (effect sp s c) ∷ log (effect sp s c).strobe acts
  log s (reload e ∷ acts) = log (reloaded e s) acts

-- ---- the refused calls struck out: what is done stays, and so does a MAC that is rejected

unfoldable pub struck : List Entry → List Entry
struck [] = []
struck (e ∷ es) = cond (refuses e.answer) (struck es) (e ∷ struck es)

-- ---- the pieces joined: a call with `more` off begins an operation, those with `more` on carry it on

-- the bytes that all its calls were lent, what they have become, and the first answer that is not 0
pub record Joined : Type 0 where
  pub flags : Flags
  pub bytes : List ℕ
  pub lent : List ℕ
  pub answer : ℕ

abbrev pub begun : Entry → Joined
begun e = record { flags = e.call.flags; bytes = e.call.bytes; lent = e.lent; answer = e.answer }

abbrev pub carried_on : Joined → Entry → Joined
carried_on o e =
    record {
      flags = o.flags;
      bytes = o.bytes ++ e.call.bytes;
      lent = o.lent ++ e.lent;
      answer = cond (eqb o.answer done) e.answer o.answer;
    }

-- o is the operation under way
unfoldable pub joined : Joined → List Entry → List Joined
joined o [] = o ∷ []
joined o (e ∷ es) = cond e.call.more (joined (carried_on o e) es) (o ∷ joined (begun e) es)

-- a fresh session's first operation is the meta-ad of its protocol name, and a call with `more` on may carry it on
abbrev pub naming : List ℕ → Joined
naming name = record { flags = META_AD; bytes = name; lent = name; answer = done }

-- the operations of a fresh session's calls
unfoldable pub operations : List ℕ → List Entry → List Joined
operations name es = joined (naming name) (struck es)
