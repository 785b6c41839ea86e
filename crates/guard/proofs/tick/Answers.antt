use mathlib.Core.Path.{◌∙◌}
use Rattle.model.specs.Machine.{Call.tick}
use Rattle.calls.proofs.Joined.{call_done}
use Rattle.guard.proofs.tick.Goals as goal

pub returns : goal.returns
returns c =
    let a = c.args in
    call_done a.b.now a.buf.now a.at tick (c.answer-ready.ensures ∙ c.ready.ensures) c.take_tick.ensures c.finish.ensures
