use mathlib.Core.Bool.{true, false, cond}
use mathlib.Core.Path.{◌≡◌, ◌∙◌}
use mathlib.Core.List.{[]}
use Rattle.commands.specs.Refusals.{number}
use Rattle.model.specs.State.{by_state}
use Rattle.model.specs.Arrival.{taken}
use Rattle.record.specs.Box.{state_of}
use Rattle.arrival.proofs.Arrivals.{settled_as, tripped_answer, untripped_answer}
use Rattle.arrival.proofs.alone.Goals as goal
use Rattle.arrival.proofs.alone.Goals.{then-b-ge-TRIPPED, else-b-ge-TRIPPED}

pub returns : goal.returns
unfolding taken state_of
returns c =
    let x = c.args.b.now in
    let told = c.if-b-ge-TRIPPED in
    let answer : number told.refusal ≡ cond (by_state x.core.state false false true) 10 6 = elim told.branch [
      | then-b-ge-TRIPPED w ↦ tripped_answer x.core.state (number told.refusal) w.if-b-ge-TRIPPED.true (rw w.refusal-is)
      | else-b-ge-TRIPPED w ↦ untripped_answer x.core.state (number told.refusal) w.if-b-ge-TRIPPED.false (rw w.refusal-is)
    ] in
    c.settle.ensures ∙ rw (c.tell.ensures, c.number.ensures, c.number-2.ensures, answer) (settled_as x 1 _ (record { core = x.core; records = [] }))
