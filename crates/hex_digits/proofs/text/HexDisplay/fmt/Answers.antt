use Rattle.std.proofs.Common.{rules, sym}
use Rattle.std.proofs.Output.{has_written_append, has_written_of_eq}
use Rattle.hex_digits.proofs.Written.{encode_more, encode_all}
use Rattle.hex_digits.proofs.text.HexDisplay.fmt.Goals as goal

pub loop-byte-preserved : goal.loop-byte-preserved
loop-byte-preserved g c =
    let xs = c.args.self.now.0.now in
    λ p. has_written_of_eq _ _ _ _ _ (sym (encode_more xs c.loop-byte.byte-index c.loop-byte-test.true)) (has_written_append _ _ _ _ _ _ (c.loop-byte.invariant p) (search rules))

pub returns-clause-writes : goal.returns-clause-writes
returns-clause-writes g c = λ p _. rw (encode_all c.args.self.now.0.now c.loop-byte.byte-index c.loop-byte-test.false) at (c.loop-byte.invariant p)
