-- `permute` is KECCAK-f[1600]: the rounds on lanes make it, and the parameter is bytes. Assumes nothing.
use mathlib.Core.Path.{ap, ◌∙◌}
use borrow.Author.Rules.{rules}
use native.Mathlib.Omega.{arith}
use lib.ListN.{get_or}
use mir.Val.{Fits}
use mir.Syntax.{w8}
use Rattle.fips202.specs.Lanes.{rounds_lanes, bytes_of_lanes}
use Rattle.fips202.proofs.Permutation.{keccak_f1600-lanes}
use Rattle.keccak.proofs.permute.Goals as goal

pub returns : goal.returns
returns c =
    let st = c.args.st in
    c.bytes.ensures ∙ ap (bytes_of_lanes 8) (c.rounds-b.ensures ∙ ap (rounds_lanes 6 24) c.lanes-a.ensures)
    ∙ keccak_f1600-lanes st (λ j. let f : Fits w8 (get_or st j 0) = search rules in omega arith)
