use mathlib.Core.Path.{sym, ◌∙◌}
use borrow.Author.Tests.{leb-true, leb-false}
use Rattle.model.specs.Machine.{step}
use Rattle.model.specs.Arrival.{arrive, byte_step}
use Rattle.record.specs.Box.{state_of}
use Rattle.arrival.proofs.arrive.Goals as goal

pub open_frame-requires : goal.open_frame-requires
open_frame-requires c = leb-true 128 c.args.n (sym c.is_high.ensures ∙ c.if-is_high.true)

pub returns-then-is_high : goal.returns-then-is_high
unfolding step byte_step arrive state_of
returns-then-is_high c = rw (sym c.is_high.ensures ∙ c.if-is_high.true) c.open_frame.ensures

pub follow-requires : goal.follow-requires
follow-requires c = (c.requires, leb-false _ _ (sym c.is_high.ensures ∙ c.if-is_high.false))

pub returns : goal.returns
unfolding step byte_step arrive state_of
returns c = rw (sym c.is_high.ensures ∙ c.if-is_high.false) c.follow.ensures
