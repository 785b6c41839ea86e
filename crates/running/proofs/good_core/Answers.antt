use Rattle.running.specs.Core.{good_core}
use Rattle.running.proofs.good_core.Goals as goal

pub returns : goal.returns
unfolding good_core
returns c = rw c.good_by_state.ensures
