-- Each way through the code is a case of `framed`. Assumes nothing.
use Rattle.std.proofs.Common.{ℕ, List, ◌≡◌, replicate, ap, sym, ◌∙◌, arith, rules}
use lib.Dec.{eqb}
use lib.ListN.{get_or}
use borrow.Author.Tests.{le-leb, lt-leb}
use Rattle.strobe.specs.Flags.{flags}
use Rattle.frames.specs.Hexadecimal.{bytes}
use Rattle.frames.specs.Frames.{limit, calling}
use Rattle.frames.proofs.Framing.{no_count, some_count, draws_by_count, plain_buffer, payload_is_lent, said_calls, refused_misshapen}
use Rattle.frames.proofs.frame.frame.Goals as goal

pub returns-in_err-count_of-in-Ratchet : goal.returns-in_err-count_of-in-Ratchet
returns-in_err-count_of-in-Ratchet c =
    rw c.from_residual-in_err-count_of-in-Ratchet.ensures
    (refused_misshapen _ _ _ c.said.ensures c.in_ok-said.was (search rules) c.in-len2-up.len_at_least _ (omega arith) _ c.operation.ensures
    (rw c.in-Ratchet.is (no_count _ (sym c.count_of.ensures ∙ c.in_err-count_of-in-Ratchet.was) _)))

pub returns-in_err-count-in-Prf : goal.returns-in_err-count-in-Prf
returns-in_err-count-in-Prf c =
    rw c.from_residual-in_err-count-in-Prf.ensures
    (refused_misshapen _ _ _ c.said.ensures c.in_ok-said.was (search rules) c.in-len2-up.len_at_least _ (omega arith) _ c.operation.ensures
    (draws_by_count _ _ c.in-Prf.is ∙ no_count _ (sym c.count_of-in-Prf.ensures ∙ c.in_err-count-in-Prf.was) _))

pub returns-then-count-gt-LIMIT : goal.returns-then-count-gt-LIMIT
returns-then-count-gt-LIMIT c =
    let n = some_count _ _ (sym c.count_of-in-Prf.ensures ∙ c.in_ok-count-in-Prf.was) in
    refused_misshapen _ _ _ c.said.ensures c.in_ok-said.was (search rules) c.in-len2-up.len_at_least _ (omega arith) _ c.operation.ensures
    (draws_by_count _ _ c.in-Prf.is ∙ rw (n.1, n.0, lt-leb c.in_ok-count-in-Prf.count limit c.if-count-gt-LIMIT.true))

pub returns-in_ok-count_of-in-Ratchet : goal.returns-in_ok-count_of-in-Ratchet
returns-in_ok-count_of-in-Ratchet c =
    let call = said_calls _ _ _ c.said.ensures c.in_ok-said.was (search rules) c.in-len2-up.len_at_least c.args.session.now (omega arith) _ c.operation.ensures in
    rw (call, c.in-Ratchet.is, (some_count _ _ (sym c.count_of.ensures ∙ c.in_ok-count_of-in-Ratchet.was)).1) c.ratchet.ensures

pub returns-else-count-gt-LIMIT : goal.returns-else-count-gt-LIMIT
returns-else-count-gt-LIMIT c =
    let count = c.in_ok-count-in-Prf.count in
    let call = said_calls _ _ _ c.said.ensures c.in_ok-said.was (search rules) c.in-len2-up.len_at_least c.args.session.now (omega arith) _ c.operation.ensures in
    let n = some_count _ count (sym c.count_of-in-Prf.ensures ∙ c.in_ok-count-in-Prf.was) in
    let zeros : c.fill.new.self ≡ replicate count 0 = c.fill.ensures.after (λ y h. h) ∙ ap (λ (n : ℕ). replicate n 0) (search rules) in
    rw (call, draws_by_count _ _ c.in-Prf.is, n.1, n.0, le-leb count limit c.if-count-gt-LIMIT.false, ← zeros) c.call.ensures

pub returns-in_default-operation : goal.returns-in_default-operation
returns-in_default-operation c =
    let o = c.in_default-operation in
    let bs = c.in_ok-said.field-0.now in
    let call = said_calls _ _ _ c.said.ensures c.in_ok-said.was (search rules) c.in-len2-up.len_at_least c.args.session.now (omega arith) _ c.operation.ensures in
    let lent = payload_is_lent _ _ _ c.said.ensures c.in_ok-said.was (search rules) c.in-len2-up.len_at_least in
    rw (call, plain_buffer _ _ o.not-Ratchet o.not-Prf o.not-SendMac)
    (c.call-in_default-operation.ensures ∙ ap (λ (b : List ℕ). calling c.args.session.now (flags (get_or bs 0 0)) (eqb (get_or bs 1 0) 1) (bytes b)) lent)
