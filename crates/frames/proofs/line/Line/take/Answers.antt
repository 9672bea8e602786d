use Rattle.std.proofs.Common.{sym, ◌∙◌}
use Rattle.std.proofs.lemmas.List.{take_rest}
use Rattle.frames.specs.Steps.{part_of}
use Rattle.frames.proofs.Reading.{one_character, at-newline, at_end, same_through}
use Rattle.frames.proofs.line.Line.take.Goals as goal

pub returns-then-character-eq10-clause-read : goal.returns-then-character-eq10-clause-read
returns-then-character-eq10-clause-read c =
    let l = c.loop-rest in
    sym (at-newline _ l.rest.now c.in-len1-up.len_at_least c.if-character-eq10.true).0 ∙ l.invariant.reads

pub returns-then-character-eq10-clause-rest : goal.returns-then-character-eq10-clause-rest
returns-then-character-eq10-clause-rest c =
    let l = c.loop-rest in
    rw take_rest (sym (at-newline (part_of l.self) l.rest.now c.in-len1-up.len_at_least c.if-character-eq10.true).1 ∙ l.invariant.rest)

pub loop-rest-preserved : goal.loop-rest-preserved
loop-rest-preserved c =
    let l = c.loop-rest in
    rw (take_rest, c.read.ensures) (same_through (one_character _ l.rest.now c.in-len1-up.len_at_least c.if-character-eq10.false) l.invariant)

pub returns-clause-read : goal.returns-clause-read
returns-clause-read c =
    let l = c.loop-rest in
    sym (at_end _ l.rest.now c.in_default.len_below).0 ∙ l.invariant.reads

pub returns-clause-rest : goal.returns-clause-rest
returns-clause-rest c =
    let l = c.loop-rest in
    sym (at_end (part_of l.self) l.rest.now c.in_default.len_below).1 ∙ l.invariant.rest
