use Rattle.std.proofs.Common.{arith}
use Rattle.frames.proofs.Writing.{no_bytes_write, two_more}
use Rattle.frames.proofs.answer.write_hexadecimal.Goals as goal

pub loop-i-init : goal.loop-i-init
loop-i-init c = no_bytes_write _

pub loop-i-preserved : goal.loop-i-preserved
loop-i-preserved c = two_more _ _ _ _ c.loop-i.invariant (omega arith) (omega arith) _ c.of.ensures
