-- `bench::session::bench_prf` meets its contract: each turn of its row is a whole call. Assumes nothing.
use borrow.Author.Rules.{rules}
use Rattle.strobe.specs.Flags.{PRF}
use Rattle.bench.proofs.session.bench_prf.Goals as goal

pub returns : goal.returns
returns c = c.row.ensures PRF (λ b. b) (λ s b r b' call. search rules)
