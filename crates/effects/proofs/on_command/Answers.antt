use Rattle.effects.proofs.Verdicts.{stop_done}
use Rattle.effects.proofs.on_command.Goals as goal

pub returns-in-Stop : goal.returns-in-Stop
returns-in-Stop c =
    let b = c.args.b.now in
    rw c.in-Stop.is (stop_done b.profile b.clock b.core c.idle.ensures (rw c.number.ensures at c.tell.ensures))
