-- `commands2::results::good` meets its contract. Assumes nothing.
use mir.Facts.{to_z-of_z}
use Rattle.commands2.proofs.Bytes.{good_range}
use Rattle.commands2.proofs.results.good.Goals as goal

pub returns : goal.returns
returns c = rw (to_z-of_z c.ranges.r) (good_range c.args.r)
