use Rattle.commands.specs.Commands.{Command.init}
use Rattle.effects.proofs.Verdicts.{not_carried, init_tests, init_done}
use Rattle.effects.proofs.kinds.on_init.Goals as goal

pub returns-in-Ok : goal.returns-in-Ok
returns-in-Ok c =
    let b = c.args.b.now in
    let told = rw c.number.ensures at c.tell.ensures in
    init_done b.profile b.clock b.core c.args.v (init_tests b.profile b.clock b.core c.args.v (c.in-Ok.ensures)) c.running.ensures told

pub returns-in-Err : goal.returns-in-Err
returns-in-Err c =
    let b = c.args.b.now in
    let dropped = rw (c.number-in-Err.ensures, c.number-in-Err-2.ensures) at c.drop_frame.ensures in
    not_carried b.profile b.clock b.core (init c.args.v) _ (init_tests b.profile b.clock b.core c.args.v c.in-Err.ensures) dropped
