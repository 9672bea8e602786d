use Rattle.std.proofs.Common.{◌≡◌, ◌-◌, ◌≤◌, length, drop, refl, ap, sym, ◌∙◌, length-take, length-drop, arith, option_copied, Some, None}
use borrow.Author.Tests.{eqb-true}
use Rattle.frames.specs.Steps.{Part, answer_limit, place_of}
use Rattle.frames.specs.Inside.{past}
use Rattle.frames.specs.declared.journal.Journal.{Journal}
use Rattle.frames.proofs.Walking.{read_on, going_start, going_on, ends_open, ends_taken, ends_full, past_shorter}
use Rattle.frames.proofs.journal.Journal.step.Goals as goal
use Rattle.frames.proofs.journal.Journal.step.Goals.{then-loop-journal-test+else-out-put-ge-ANSWER_LIMIT, else-loop-journal-test}

pub loop-journal-init : goal.loop-journal-init
loop-journal-init c = going_start _ _ _

pub returns-in_default : goal.returns-in_default
returns-in_default c =
    let l = c.loop-journal in
    let enough : answer_limit ≤ length c.args.out.now - l.put = omega arith in
    let all : past l.rest.now ≡ None = sym c.take.ensures.rest ∙ ap option_copied c.in_default.is in
    ends_open _ _ _ _ _ _ _ l.invariant _ enough all
    (ap (λ (q : Part). record { stage = l.journal.stage; session = l.journal.session; part = q }) c.take.ensures.read)

pub loop-journal-smaller : goal.loop-journal-smaller
loop-journal-smaller c = past_shorter c.loop-journal.rest.now c.in-Some.others.now (sym c.take.ensures.rest ∙ ap option_copied c.in-Some.is)

pub loop-journal-preserved : goal.loop-journal-preserved
loop-journal-preserved c =
    let l = c.loop-journal in
    let r = c.reply-put in
    let enough : answer_limit ≤ length c.args.out.now - l.put = omega arith in
    let others : past l.rest.now ≡ Some c.in-Some.others.now = sym c.take.ensures.rest ∙ ap option_copied c.in-Some.is in
    let read : Journal = record { stage = l.journal.stage; session = l.journal.session; line = c.take.new.self } in
    let whole : place_of read ≡ read_on (place_of l.journal) l.rest.now =
    ap (λ (q : Part). record { stage = l.journal.stage; session = l.journal.session; part = q }) c.take.ensures.read in
    going_on _ _ _ _ _ _ _ l.invariant enough _ others (place_of read) whole _ (rw (r.ensures.stage, r.ensures.session, c.clear.ensures)) l.auto.out r.result r.new.out
    (omega (arith, r.auto.out, length-take (length l.out - l.put) (drop l.put l.out), length-drop l.put l.out, l.auto.out))
    r.ensures.text

pub returns : goal.returns
returns c =
    let l = c.loop-journal in
    elim c.loop-journal-test.branch [
      | then-loop-journal-test+else-out-put-ge-ANSWER_LIMIT w ↦ ends_full _ _ _ _ _ _ _ l.invariant _ refl _ refl (omega (arith, w.if-out-put-ge-ANSWER_LIMIT.false))
      | else-loop-journal-test w ↦ ends_taken _ _ _ _ _ _ _ l.invariant _ refl _ refl (eqb-true (length l.rest.now) 0 (sym w.loop-journal-test.ensures))
    ]
