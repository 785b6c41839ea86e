use mathlib.Core.Path.{sym, ◌∙◌}
use Rattle.model.specs.Effects.{accept}
use Rattle.effects.proofs.kinds.accept_single.Goals as goal

pub returns-then-is_felt : goal.returns-then-is_felt
unfolding accept
returns-then-is_felt c = simp (sym c.is_felt.ensures ∙ c.if-is_felt.true) (c.tell_pulse.ensures ∙ rw c.hold-held.ensures)

pub returns : goal.returns
unfolding accept
returns c = simp (sym c.is_felt.ensures ∙ c.if-is_felt.false) (c.tell.ensures ∙ rw (c.number.ensures, c.hold-held.ensures))
