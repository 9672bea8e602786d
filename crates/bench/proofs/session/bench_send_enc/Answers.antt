-- `bench::session::bench_send_enc` meets its contract: each turn of its row is a whole call. Assumes nothing.
use borrow.Author.Rules.{rules}
use Rattle.strobe.specs.Flags.{SEND_ENC}
use Rattle.bench.proofs.session.bench_send_enc.Goals as goal

pub returns : goal.returns
returns c = c.row.ensures SEND_ENC (λ b. b) (λ s b r b' call. search rules)
