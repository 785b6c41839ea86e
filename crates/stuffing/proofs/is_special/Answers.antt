-- `stuffing::is_special` meets its contract. Assumes nothing.
use mathlib.Core.Path.{refl}
use Rattle.stuffing.specs.Stuffing.{special}
use Rattle.stuffing.proofs.is_special.Goals as goal

pub returns : goal.returns
unfolding special
returns c = refl
