use Rattle.commands.specs.Commands.{Command.update}
use Rattle.effects.proofs.Verdicts.{not_carried, update_tests, update_done}
use Rattle.effects.proofs.kinds.on_update.Goals as goal

pub returns-in-Ok : goal.returns-in-Ok
returns-in-Ok c =
    let b = c.args.b.now in
    let asks = c.place-settings.ensures in
    let tests = update_tests b.profile b.clock b.core c.args.entries asks c.in-Ok.ensures in
    update_done b.profile b.clock b.core c.args.entries asks tests c.wait.ensures (rw c.number.ensures at c.tell.ensures)

pub returns-in-Err : goal.returns-in-Err
returns-in-Err c =
    let b = c.args.b.now in
    let tests = update_tests b.profile b.clock b.core c.args.entries c.place-settings.ensures c.in-Err.ensures in
    let dropped = rw (c.number-in-Err.ensures, c.number-in-Err-2.ensures) at c.drop_frame.ensures in
    not_carried b.profile b.clock b.core (update 0 c.args.entries) _ tests dropped
