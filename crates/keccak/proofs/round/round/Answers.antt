-- `round`'s turned lanes are those that theta, rho and pi make, and over them it computes to chi and iota, lane by lane.
-- So it is the round of FIPS 202, complemented. Assumes nothing.
use mathlib.Core.List.{List, [], ◌∷◌}
use Prim.Native.Nat.{ℕ}
use native.Mathlib.Omega.{arith}
use borrow.Author.Rules.{rules}
use lib.Bits.{bit_xor}
use lib.ListN.{get_or}
use mir.Val.{Fits}
use mir.Syntax.{w64}
use Rattle.fips202.specs.Lanes.{column, lane}
use Rattle.fips202.proofs.Steps.{below_fits}
use Rattle.keccak.proofs.Chi.{round_over}
use Rattle.keccak.proofs.round.round.Goals as goal

pub returns : goal.returns
returns c =
    let a = c.args.a in
    let b : List ℕ =
    bit_xor (lane a 0 0) (bit_xor (column a 4) c.rotate_left.result)
    ∷ c.rotate_left-b1.result ∷ c.rotate_left-b2.result ∷ c.rotate_left-b3.result ∷ c.rotate_left-b4.result
    ∷ c.rotate_left-b5.result ∷ c.rotate_left-b6.result ∷ c.rotate_left-b7.result ∷ c.rotate_left-b8.result ∷ c.rotate_left-b9.result
    ∷ c.rotate_left-b10.result ∷ c.rotate_left-b11.result ∷ c.rotate_left-b12.result ∷ c.rotate_left-b13.result ∷ c.rotate_left-b14.result
    ∷ c.rotate_left-b15.result ∷ c.rotate_left-b16.result ∷ c.rotate_left-b17.result ∷ c.rotate_left-b18.result ∷ c.rotate_left-b19.result
    ∷ c.rotate_left-b20.result ∷ c.rotate_left-b21.result ∷ c.rotate_left-b22.result ∷ c.rotate_left-b23.result ∷ c.rotate_left-b24.result ∷ [] in
    round_over 64 c.args.rc a b
    (rw (c.rotate_left-b1.ensures, c.rotate_left-b2.ensures, c.rotate_left-b3.ensures, c.rotate_left-b4.ensures, c.rotate_left-b5.ensures, c.rotate_left-b6.ensures, c.rotate_left-b7.ensures, c.rotate_left-b8.ensures, c.rotate_left-b9.ensures, c.rotate_left-b10.ensures, c.rotate_left-b11.ensures, c.rotate_left-b12.ensures, c.rotate_left-b13.ensures, c.rotate_left-b14.ensures)
    (rw (c.rotate_left-b15.ensures, c.rotate_left-b16.ensures, c.rotate_left-b17.ensures, c.rotate_left-b18.ensures, c.rotate_left-b19.ensures, c.rotate_left-b20.ensures, c.rotate_left-b21.ensures, c.rotate_left-b22.ensures, c.rotate_left-b23.ensures, c.rotate_left-b24.ensures)
    (rw (c.rotate_left.ensures, c.rotate_left-2.ensures, c.rotate_left-3.ensures, c.rotate_left-4.ensures, c.rotate_left-5.ensures))))
    (below_fits 64 a (λ j. let f : Fits w64 (get_or a j 0) = search rules in omega arith))
