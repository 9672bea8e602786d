-- What was gathered and the digits that are left come to the same at each turn, where there is room for all. Assumes nothing.
use Rattle.std.proofs.Common.{◌≡◌, ◌≤◌, ◌+◌, ◌*◌, length}
use Rattle.trace.specs.Bounds.{out_size}
use Rattle.trace.proofs.output.Out.push_hex.Given as goal

abbrev pub invariant-loop-rest : goal.invariant-loop-rest
invariant-loop-rest g l =
    l.initial.self.count + 2 * length l.bytes ≤ out_size →
    l.self.count + 2 * length l.rest ≡ l.initial.self.count + 2 * length l.bytes

abbrev pub decreases-loop-rest : goal.decreases-loop-rest
decreases-loop-rest g l = length l.rest

abbrev pub invariant-loop-pair : goal.invariant-loop-pair
invariant-loop-pair g l =
    (goal.iterator-loop-pair g).can_next l.pair-iterator ×
    (goal.iterator-loop-pair g).is_finite l.pair-iterator
