-- `operate`: the change of the lent bytes. Assumes nothing.
use Rattle.std.proofs.Common.{rules}
use Rattle.strobe.proofs.Calls.{changed}
use Rattle.strobe.proofs.session.Session.operate.Goals as goal

pub returns : goal.returns
returns c = changed _ _ _ _ _ _ _ _ _ c.operated.ensures c.requires (search rules) (search rules) (search rules)
