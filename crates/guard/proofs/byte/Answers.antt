use mathlib.Core.Path.{◌∙◌}
use Rattle.model.specs.Machine.{Call.byte}
use Rattle.calls.proofs.Joined.{call_done}
use Rattle.guard.proofs.byte.Goals as goal

pub returns : goal.returns
returns c =
    let a = c.args in
    call_done a.b.now a.buf.now a.at (byte a.n) (c.answer-ready.ensures ∙ c.ready.ensures) c.take_byte.ensures c.finish.ensures
