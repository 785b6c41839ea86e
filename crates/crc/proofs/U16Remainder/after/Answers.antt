-- A byte into sixteen bits, by the table. Assumes nothing.
use native.Mathlib.Omega.{arith}
use Rattle.crc.proofs.Laws.{looked_up16, moved16}
use Rattle.crc.proofs.U16Remainder.after.Goals as goal

pub returns : goal.returns
returns c = let a = c.args in let t = looked_up16 4129 _ c.remainders16-table.ensures a.self a.b (omega arith) c.ranges.self.fits c.ranges.b.fits in rw (moved16 a.self, c.from.ensures) t
