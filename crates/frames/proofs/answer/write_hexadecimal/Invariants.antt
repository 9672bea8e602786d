-- What is written is the bytes so far. Assumes nothing.
use Rattle.std.proofs.Common.{◌*◌, take}
use Rattle.frames.specs.Hexadecimal.{encode}
use Rattle.frames.specs.Inside.{Writes}
use Rattle.frames.proofs.answer.write_hexadecimal.Given as goal

abbrev pub invariant-loop-i : goal.invariant-loop-i
invariant-loop-i l = Writes (encode (take l.i l.bytes)) l.initial.out (2 * l.i) l.out
