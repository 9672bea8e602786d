-- What comes of a call on a session lent by `&mut`: the session that is left in its place and the report are the outcome of the call by value.
use Rattle.strobe.specs.declared.session.Session.{Session}
use Rattle.strobe.specs.declared.session.Outcome.{Outcome}
use Rattle.lent.specs.declared.Report.{Report}

abbrev pub outcome : Session → Report → Outcome
outcome s r = record { session = s; answer = r.answer }
