-- `charge::is_good_point` meets its contract: a code within our limit is one of the paper's. Assumes nothing.
use Rattle.charge.specs.Charge.{within_limit}
use Rattle.charge.proofs.Points.{good_tests_lem}
use Rattle.charge.proofs.is_good_point.Goals as goal

pub returns : goal.returns
unfolding within_limit
returns c = good_tests_lem c.args.p
