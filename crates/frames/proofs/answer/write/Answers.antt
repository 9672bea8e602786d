-- Two digits, the bytes and a newline, one behind another, are the line of the answer. Assumes nothing.
use Rattle.std.proofs.Common.{ℕ, arith, length-set}
use Rattle.frames.proofs.Writing.{newline_fits, answer_writes}
use Rattle.frames.proofs.answer.write.Goals as goal

pub bounds-out-end : goal.bounds-out-end
bounds-out-end c = newline_fits c.args.shown.now _ _ _ (omega (arith, length-set {A = ℕ})) c.write_hexadecimal-end.ensures

pub returns : goal.returns
returns c = answer_writes c.args.number c.args.shown.now c.args.out.now c.requires _ _ c.write_hexadecimal-end.ensures
