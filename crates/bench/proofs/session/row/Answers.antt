use native.Mathlib.Omega.{arith}
use Rattle.bench.proofs.Rows.{fresh_turned, turned_once_more, row_of_turns}
use Rattle.bench.proofs.session.row.Goals as goal

pub loop-init : goal.loop-init
loop-init g c f seen calls = fresh_turned f _ c.new.ensures

pub loop-preserved : goal.loop-preserved
loop-preserved g c f seen calls = turned_once_more f _ _ (c.loop.invariant f seen calls) (calls _ _ _ _ c.operation-turn.ensures)

pub returns : goal.returns
returns g c f seen calls = row_of_turns f _ _ (omega arith) (c.loop.invariant f seen calls) c.prf.ensures
