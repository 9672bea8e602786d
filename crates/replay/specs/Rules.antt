-- STROBE with its rules left open: operations taken whole, as specs/Whole.antt has them, over any table of rules, any way to set the direction and any way to
-- mix the flags. With STROBE's own three it is STROBE (`strobe_is`, `strobe_next` of proofs/Tables.antt). It shows what replay hangs on.
use Rattle.std.specs.Prelude.{not, cond, ◌&&◌, List, [], ◌∷◌, ◌≡◌, ℕ, ◌+◌}
use Rattle.strobe.specs.Answer.{done, mac_unequal}
use Rattle.strobe.specs.Duplex.{Sponge, Duplex, Rule, after, out, met, same}
use Rattle.strobe.specs.Every.{Every}
use Rattle.strobe.specs.Flags.{operation, is_recv_mac, absorbing, rule_of}
use Rattle.strobe.specs.Strobe.{Strobe, directed, mixed, forced, unnamed}
use Rattle.strobe.specs.declared.direction.Direction.{Direction}
use Rattle.strobe.specs.declared.flags.Flags.{Flags}
use Rattle.strobe.specs.declared.flags.Operation.{Operation}
use Rattle.replay.specs.Each.{Each}
use Rattle.replay.specs.History.{Joined}
use Rattle.replay.specs.Mirror.{Mirrors, Agrees}
use Rattle.replay.specs.Replay.{OperationsDone}
use Rattle.replay.specs.Usable.{Sound}
use Rattle.replay.specs.Whole.{OneOfTwenty}

pub record Rules : Type 0 where
  pub rule : Operation → Rule
  pub direct : Direction → Flags → Direction
  pub mixing : Direction → Flags → ℕ

-- another table, and all else as STROBE has it
abbrev pub ruled : (Operation → Rule) → Rules
ruled table = record { rule = table; direct = directed; mixing = mixed }

abbrev pub strobe_rules : Rules
strobe_rules = ruled rule_of

-- an operation to be made
pub record Request : Type 0 where
  pub flags : Flags
  pub bytes : List ℕ

-- where an end stands between two operations
pub record End : Type 0 where
  pub duplex : Duplex
  pub direction : Direction

abbrev pub end_of : Strobe → End
end_of s = record { duplex = s.duplex; direction = s.direction }

module _ (v : Rules) (sp : Sponge) where
  -- section 5 of docs/RULES.md
  abbrev pub opened_by : End → Flags → End
  opened_by e f =
      let dir = v.direct e.direction f in
      let d = e.duplex in
      record {
        duplex = forced sp f (after sp absorbing (record { st = d.st; pos = d.pos; begin = d.pos + 1 }) (d.begin ∷ v.mixing dir f ∷ []));
        direction = dir;
      }

  abbrev pub verdict_by : Operation → Duplex → List ℕ → ℕ
  verdict_by o d bs = cond (is_recv_mac o && not (same (met sp (v.rule o) d bs) bs)) mac_unequal done

  -- an operation made whole, and where it leaves the end
  abbrev pub made_by : End → Request → Joined
  made_by e q =
      let d = (opened_by e q.flags).duplex in
      record {
        flags = q.flags;
        bytes = q.bytes;
        lent = out sp (v.rule (operation q.flags)) d q.bytes;
        answer = verdict_by (operation q.flags) d q.bytes;
      }

  abbrev pub next_by : End → Request → End
  next_by e q =
      let o = opened_by e q.flags in
      record { duplex = after sp (v.rule (operation q.flags)) o.duplex q.bytes; direction = o.direction }

  -- one after another
  unfoldable pub made : End → List Request → List Joined
  made e [] = []
  made e (q ∷ qs) = made_by e q ∷ made (next_by e q) qs

  unfoldable pub end_after : End → List Request → End
  end_after e [] = e
  end_after e (q ∷ qs) = end_after (next_by e q) qs

-- replay under the rules v, over every sound sponge: whatever operations the first end makes and the second mirrors. Those of a fresh session begin with the
-- meta-ad of its name
abbrev pub Replays : Rules → Type 0
Replays v =
    (sp : Sponge) → Sound sp → (qs rs : List Request) → let e = end_of (unnamed sp) in
    Every (λ (q : Request). OneOfTwenty q.flags) qs → OperationsDone (made v sp e qs) → Each Mirrors (made v sp e qs) (made v sp e rs)
    → Each Agrees (made v sp e qs) (made v sp e rs) × ((end_after v sp e rs).duplex ≡ (end_after v sp e qs).duplex)
