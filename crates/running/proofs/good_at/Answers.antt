use Rattle.running.specs.Core.{good_at}
use Rattle.running.proofs.good_at.Goals as goal

pub returns : goal.returns
unfolding good_at
returns c = rw (c.is_zero.ensures, c.listed.ensures, c.good_setting.ensures)
