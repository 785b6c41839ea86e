-- `reader2::Rehastim2::told` meets its contract. Assumes nothing.
use mathlib.Core.Path.{sym, ◌∙◌}
use Rattle.packets2.proofs.Lawful.{size_range}
use Rattle.reader2.proofs.Rehastim2Protocol62.told.Goals as goal

pub overflow_sub-size : goal.overflow_sub-size
overflow_sub-size c = (size_range _ (sym c.size_good.ensures ∙ c.if-not-size_good.false)).0
