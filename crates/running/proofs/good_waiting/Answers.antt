use mathlib.Core.Path.{◌∙◌}
use Rattle.running.proofs.Waits.{one_waits, none_waits}
use Rattle.running.proofs.good_waiting.Goals as goal

pub returns-then-waits-eq1 : goal.returns-then-waits-eq1
returns-then-waits-eq1 c =
    let a = c.args in
    λ _. c.fit.ensures ∙ one_waits a.p a.v a.waits a.waiting c.if-waits-eq1.true

pub returns : goal.returns
returns c =
    let a = c.args in
    λ e. rw c.all_zero.ensures (none_waits a.p a.v a.waits a.waiting e c.if-waits-eq1.false)
