-- A byte into eight bits, by the table. Assumes nothing.
use native.Mathlib.Omega.{arith}
use Rattle.crc.proofs.Laws.{looked_up8}
use Rattle.crc.proofs.U8Remainder.after.Goals as goal

pub returns : goal.returns
returns c = let a = c.args in looked_up8 7 _ c.remainders8-table.ensures a.self a.b (omega arith) c.ranges.self.fits c.ranges.b.fits
