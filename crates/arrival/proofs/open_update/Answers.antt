use mathlib.Core.Path.{◌∙◌}
use Rattle.arrival.proofs.Arrivals.{update_opens, update_alone}
use Rattle.arrival.proofs.open_update.Goals as goal

pub returns-then-b-eq-RUNNING : goal.returns-then-b-eq-RUNNING
returns-then-b-eq-RUNNING c =
    c.keep.ensures ∙ rw (c.first.ensures, c.channels.ensures.0) (update_opens c.args.b.now c.args.n c.if-b-eq-RUNNING.true)

pub returns : goal.returns
returns c = c.alone.ensures ∙ rw (update_alone c.args.b.now c.args.n c.if-b-eq-RUNNING.false)
