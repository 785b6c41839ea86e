-- `stuffing::is_wrong` meets its contract. Assumes nothing.
use mathlib.Core.Path.{ap, ◌∙◌}
use mathlib.Core.Bool.{Bool, not, ◌&&◌}
use lib.Dec.{eqb}
use Rattle.stuffing.specs.Stuffing.{stuffing_byte}
use Rattle.stuffing.proofs.Laws.{wrong_after, wrong_plain}
use Rattle.stuffing.proofs.is_wrong.Goals as goal

pub returns-then-after : goal.returns-then-after
returns-then-after c = ap not c.is_special.ensures ∙ wrong_after c.args.b c.args.after c.if-after.true

pub returns-else-after : goal.returns-else-after
returns-else-after c = ap (λ (t : Bool). t && not (eqb c.args.b stuffing_byte)) c.is_special-else-after.ensures ∙ wrong_plain c.args.b c.args.after c.if-after.false
