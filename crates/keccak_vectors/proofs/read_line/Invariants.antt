-- `read_line` is safe and ends: each read that gives no byte is the last.
use Rattle.std.proofs.Common.{◌-◌, ◌≤◌}
use Rattle.keccak_vectors.proofs.read_line.Given as goal

abbrev pub invariant-loop-done : goal.invariant-loop-done
invariant-loop-done g l = l.done ≤ 401

abbrev pub decreases-loop-done : goal.decreases-loop-done
decreases-loop-done g l = 401 - l.done
