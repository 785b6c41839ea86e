-- `reader2::read_packet` meets its contract. Assumes nothing.
use mathlib.Core.Path.{ap}
use Rattle.reader2.specs.Reader.{as_read, read_packet}
use Rattle.reader2.proofs.read_packet.Goals as goal

pub returns-in-Ok : goal.returns-in-Ok
unfolding read_packet
returns-in-Ok c = (ap as_read c.in-Ok.ensures.read, c.in-Ok.ensures.put)

pub returns-in-Err : goal.returns-in-Err
unfolding read_packet
returns-in-Err c = (rw c.number.ensures (ap as_read c.in-Err.ensures.read), c.in-Err.ensures.put)
