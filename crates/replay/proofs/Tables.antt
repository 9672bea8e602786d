-- Replay of operations taken whole, under every table of rules that has what `Rows` asks; STROBE's own has it. Assumes nothing.
use mathlib.Core.Path.{◌≡◌, refl}
use mathlib.Core.List.{List, [], ◌∷◌}
use Rattle.strobe.specs.Duplex.{Sponge, Rule}
use Rattle.strobe.specs.Every.{Every}
use Rattle.strobe.specs.Flags.{rule_of}
use Rattle.strobe.specs.Strobe.{Strobe, begin_op, opened, verdict, worked, unnamed}
use Rattle.strobe.specs.declared.flags.Operation.{Operation}
use Rattle.replay.specs.Each.{Each}
use Rattle.replay.specs.Mirror.{Mirrors, Agrees}
use Rattle.replay.specs.Replay.{OperationsDone}
use Rattle.replay.specs.Rules.{ruled, strobe_rules, Request, End, end_of, made_by, next_by, made, end_after, Replays}
use Rattle.replay.specs.Whole.{OneOfTwenty, whole, Right}
use Rattle.replay.proofs.Mirror.{Faces, Rows, Faced, faced}
use Rattle.replay.proofs.Xor.{xor_back}

-- ---- one operation after another

module _ (table : Operation → Rule) (rows : Rows table) (sp : Sponge) where
  pub facing : (qs rs : List Request) (e f : End) → Faces e f → Every (λ (q : Request). OneOfTwenty q.flags) qs
      → OperationsDone (made (ruled table) sp e qs) → Each Mirrors (made (ruled table) sp e qs) (made (ruled table) sp f rs)
      → Each Agrees (made (ruled table) sp e qs) (made (ruled table) sp f rs) × Faces (end_after (ruled table) sp e qs) (end_after (ruled table) sp f rs)
  unfolding made end_after
  facing [] [] e f fs k z m = (tt, fs)
  facing [] (r ∷ rs) e f fs k z m = absurd m
  facing (q ∷ qs) [] e f fs k z m = absurd m
  facing (q ∷ qs) (r ∷ rs) e f fs k z m =
      let w : Faced sp table rows e f q r = faced sp table rows e f q r fs k.0 z.0 m.0 in
      let rest = facing qs rs (next_by (ruled table) sp e q) (next_by (ruled table) sp f r) w.faces k.1 z.1 m.1 in
      ((w.agrees, rest.0), rest.1)

pub rows_replay : (table : Operation → Rule) → Rows table → Replays (ruled table)
unfolding unnamed
rows_replay table rows sp sound qs rs k z m =
    let w = facing table rows sp qs rs (end_of (unnamed sp)) (end_of (unnamed sp)) (record { duplex = refl; direction = refl }) k z m in
    (w.0, w.1.duplex)

-- ---- STROBE

-- with its own rules it is STROBE: the bytes and the answer, and where it leaves the end
pub strobe_is : (sp : Sponge) (s : Strobe) (q : Request) → OneOfTwenty q.flags → Right sp s (made_by strobe_rules sp (end_of s) q)
unfolding opened begin_op worked verdict
strobe_is sp s q k = record { one_of_twenty = k; lent = refl; answer = refl }

pub strobe_next : (sp : Sponge) (s : Strobe) (q : Request) → end_of (whole sp s (made_by strobe_rules sp (end_of s) q)).strobe ≡ next_by strobe_rules sp (end_of s) q
unfolding opened begin_op worked
strobe_next sp s q = refl

pub strobe_rows : Rows rule_of
strobe_rows =
    record {
      ad = λ s c. refl;
      key = λ s c. refl;
      ratchet = λ s c. refl;
      ratchet_blind = λ s b c. refl;
      prf_blind = λ s b c. refl;
      prf_bytes = λ s b c. refl;
      send_clr = record { state = λ s c. refl; buffer = λ s c. refl };
      recv_clr = record { state = λ s c. refl; buffer = λ s c. refl };
      send_enc = record { state = λ s c. refl; buffer = xor_back };
      recv_enc = record { state = xor_back; buffer = xor_back };
      send_mac = refl;
      recv_mac = refl;
    }

pub strobe_rules_replay : Replays strobe_rules
strobe_rules_replay = rows_replay rule_of strobe_rows
