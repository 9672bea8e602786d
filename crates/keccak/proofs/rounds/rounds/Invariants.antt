-- `rounds` is the 24 rounds. The outer loop's invariant: `s` is what the first `2 i` rounds make, and the table has the constants of rc(t),
-- which the answer `loop-i-init` computes. The inner loop's: `s` is `j` rounds further. Assumes nothing.
use mathlib.Core.Path.{◌≡◌}
use Prim.Native.Nat.{◌+◌, ◌*◌}
use Rattle.keccak.proofs.Loops.{turns, round_at, round_constants}
use Rattle.keccak.proofs.rounds.rounds.Given as goal

abbrev pub invariant-loop-j : goal.invariant-loop-j
invariant-loop-j l = l.s ≡ turns (λ k. round_at (2 * l.i + k)) l.j l.initial.s

abbrev pub invariant-loop-i : goal.invariant-loop-i
invariant-loop-i l = (l.s ≡ turns round_at (2 * l.i) l.initial.s) × (l.constants ≡ round_constants)
