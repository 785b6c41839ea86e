-- `reader3::read_packet` meets its contract. Assumes nothing.
use mathlib.Core.Path.{ap, ◌∙◌}
use Rattle.reader3.specs.Decoding.{as_decoded}
use Rattle.reader3.proofs.Decoding.{same_read, same_put, nothing_charged}
use Rattle.reader3.proofs.read_packet.Goals as goal

pub returns-in-Ok : goal.returns-in-Ok
returns-in-Ok c =
    let a = c.args in
    (c.report.ensures ∙ ap as_decoded c.in-Ok.ensures.read ∙ same_read a.s.now _, c.in-Ok.ensures.put ∙ same_put a.s.now a.out.now)

pub returns-in-Err : goal.returns-in-Err
returns-in-Err c =
    let a = c.args in
    (rw (c.number.ensures, ← nothing_charged) (ap as_decoded c.in-Err.ensures.read ∙ same_read a.s.now _), c.in-Err.ensures.put ∙ same_put a.s.now a.out.now)
