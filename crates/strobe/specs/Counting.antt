-- How often the permutation runs, by the definitions themselves: under a permutation that only puts a mark before the state, the state grows by one
-- at each run, and nothing else changes its length. A call runs the permutation only to close a block.
use Rattle.std.specs.Prelude.{◌∷◌, ℕ, ◌-◌, length}
use Rattle.strobe.specs.Duplex.{Sponge}
use Rattle.strobe.specs.Strobe.{Strobe}

abbrev pub counting : Sponge → Sponge
counting sp = record { perm = λ st. 0 ∷ st; rate = sp.rate; size = sp.size }

-- the runs from a session to a later one, both over a counting sponge
abbrev pub runs_between : Strobe → Strobe → ℕ
runs_between s t = length t.duplex.st - length s.duplex.st
