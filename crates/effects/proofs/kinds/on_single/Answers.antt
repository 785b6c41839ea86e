use Rattle.commands.specs.Commands.{Command.single}
use Rattle.effects.proofs.Verdicts.{carried_out, not_carried, single_tests}
use Rattle.effects.proofs.kinds.on_single.Goals as goal

pub returns-in-Ok : goal.returns-in-Ok
returns-in-Ok c =
    let b = c.args.b.now in
    carried_out b.profile b.clock b.core (single c.args.v) (single_tests b.profile b.clock b.core c.args.v c.in-Ok.ensures) c.accept_single.ensures

pub returns-in-Err : goal.returns-in-Err
returns-in-Err c =
    let b = c.args.b.now in
    let dropped = rw (c.number.ensures, c.number-in-Err.ensures) at c.drop_frame.ensures in
    not_carried b.profile b.clock b.core (single c.args.v) _ (single_tests b.profile b.clock b.core c.args.v c.in-Err.ensures) dropped
