-- `stuffing::opens_pair` meets its contract. Assumes nothing.
use mathlib.Core.Path.{refl}
use Rattle.stuffing.specs.Stuffing.{opens_pair}
use Rattle.stuffing.proofs.opens_pair.Goals as goal

pub returns : goal.returns
unfolding opens_pair
returns c = refl
