-- `bench::session::row` meets its contract. The loop's invariant: the session and the buffer are those behind as many turns as were counted.
-- Assumes nothing.
use Prim.Native.Nat.{ℕ}
use mathlib.Core.List.{List}
use Rattle.strobe.specs.declared.flags.Flags.{Flags}
use Rattle.bench.specs.Rows.{AlwaysCalls}
use Rattle.bench.proofs.Rows.{Turned}
use Rattle.bench.proofs.session.row.Given as goal

abbrev pub invariant-loop : goal.invariant-loop
invariant-loop g l =
    (f : Flags) (seen : List ℕ → List ℕ) → AlwaysCalls f seen (goal.F-post g l.operation)
    → Turned f (seen l.initial.buf) l.counter l.session (seen l.buf)
