-- `reader2::size_good` meets its contract. Assumes nothing.
use mathlib.Core.Path.{refl}
use Rattle.packets2.specs.Rehastim2.{size_good}
use Rattle.reader2.proofs.size_good.Goals as goal

pub returns : goal.returns
unfolding size_good
returns c = refl
