use Rattle.hex_digits.proofs.Written.{written}
use Rattle.hex_digits.proofs.text.PairDisplay.fmt.Goals as goal

pub returns-clause-writes : goal.returns-clause-writes
returns-clause-writes g c = rw (c.in_radix.ensures, c.laid_out.ensures, written c.args.self.now.byte c.args.self.now.small) at c.write.ensures.writes
