-- Bit M tells which of the two ratchets the flag byte is. Assumes nothing.
use Rattle.frames.proofs.Framing.{ratcheted}
use Rattle.frames.proofs.frame.ratchet.Goals as goal

pub returns-then-has : goal.returns-then-has
returns-then-has c = ratcheted _ _ _ _ _ _ c.requires c.has.ensures (rw c.if-has.true c.meta_ratchet.ensures)

pub returns-else-has : goal.returns-else-has
returns-else-has c = ratcheted _ _ _ _ _ _ c.requires c.has.ensures (rw c.if-has.false c.ratchet.ensures)
