-- `operated`: the opening, the work, and the session behind it. Assumes nothing.
use mathlib.Core.Path.{refl, ◌∙◌}
use Rattle.strobe.proofs.Calls.{kept_rate, done_work}
use Rattle.strobe.proofs.session.Session.operated.Goals as goal

pub invariant_of-open : goal.invariant_of-open
invariant_of-open g c = record { rated = kept_rate _ c.requires.rated c.work-answer.ensures ∙ c.begin.new.self.rated }

pub returns : goal.returns
returns g c =
    let b = c.new-open in
    let o = c.begin in
    rw c.outcome.ensures
    (done_work _ c.args.self c.args.flags c.args.more _ c.args.n c.tested-answer.result c.tested-answer.ensures c.in-Done.is b.result b.ensures.strobe b.ensures.level o.new.self o.ensures.strobe o.ensures.level
    refl c.work-answer.ensures)
