-- `lanes` reads each lane from its chunk. Assumes nothing.
use borrow.Author.Rules.{rules}
use mathlib.Core.List.{[]}
use mathlib.Core.Path.{◌∙◌}
use lib.ListN.{get_or}
use Rattle.std.specs.Int.{w64, from_le_bytes}
use Rattle.keccak.proofs.Chunks.{lanes_of_chunks, made_by}
use Rattle.keccak.proofs.lanes.lanes.Goals as goal

pub returns : goal.returns
returns c =
    let chunks = c.as_chunks.result.0.now in
    made_by _ _ (λ k. from_le_bytes w64 (get_or chunks k [])) 25 (λ k y q h call. search rules) c.from_fn.result c.from_fn.ensures.items
    ∙ lanes_of_chunks c.args.st.now (rw c.told-st at c.as_chunks.ensures.front)
