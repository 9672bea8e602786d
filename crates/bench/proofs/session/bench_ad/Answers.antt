-- `bench::session::bench_ad` meets its contract: each turn of its row is a whole call. Assumes nothing.
use borrow.Author.Rules.{rules}
use Rattle.strobe.specs.Flags.{AD}
use Rattle.bench.proofs.session.bench_ad.Goals as goal

pub returns : goal.returns
returns c = c.row.ensures AD (λ b. c.args.buf.now) (λ s b r b' call. search rules)
