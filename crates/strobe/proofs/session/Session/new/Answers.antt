-- `new` names a session that has no name. Assumes nothing.
use Rattle.strobe.proofs.Calls.{named}
use Rattle.strobe.proofs.session.Session.new.Goals as goal

pub returns : goal.returns
returns c = named _ _ _ _ c.unnamed.ensures c.operate_no_mutate.ensures
