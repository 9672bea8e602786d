use Rattle.std.proofs.Common.{sym, ◌∙◌, rules}
use Rattle.std.proofs.lemmas.List.{take_rest}
use Rattle.frames.proofs.Reading.{one_pair, same_through}
use Rattle.frames.proofs.line.Line.read_pairs.Goals as goal

pub loop-rest-preserved : goal.loop-rest-preserved
loop-rest-preserved c =
    let l = c.loop-rest in
    let same = one_pair (record l.self { count = l.count }) l.rest.now c.in-Some.byte (search rules) l.invariant.0 c.if-count-ge-LINE_LIMIT.false c.in-len2-up.len_at_least (sym c.in-Some.is ∙ c.byte.ensures) in
    (l.invariant.0, rw take_rest (same_through same l.invariant.1))
