-- `framing::is_close` meets its contract. Assumes nothing.
use mathlib.Core.Path.{refl}
use Rattle.framing.specs.Scan.{closes}
use Rattle.framing.proofs.is_close.Goals as goal

pub returns : goal.returns
unfolding closes
returns c = refl
