-- `framing::is_open` meets its contract. Assumes nothing.
use mathlib.Core.Path.{refl}
use Rattle.framing.specs.Scan.{opens}
use Rattle.framing.proofs.is_open.Goals as goal

pub returns : goal.returns
unfolding opens
returns c = refl
