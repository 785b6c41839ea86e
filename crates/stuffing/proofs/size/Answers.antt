-- `stuffing::size` meets its contract. Assumes nothing.
use mathlib.Core.Path.{sym, ap, ◌∙◌}
use lib.ListN.{length}
use Rattle.stuffing.proofs.Laws.{stuffed_special, stuffed_plain}
use Rattle.stuffing.proofs.size.Goals as goal

pub returns-then-is_special : goal.returns-then-is_special
returns-then-is_special c = sym (ap length (stuffed_special c.args.b (sym c.is_special.ensures ∙ c.if-is_special.true)))

pub returns-else-is_special : goal.returns-else-is_special
returns-else-is_special c = sym (ap length (stuffed_plain c.args.b (sym c.is_special.ensures ∙ c.if-is_special.false)))
