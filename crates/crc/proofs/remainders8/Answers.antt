-- `crc::remainders8` meets its contract: the table's rule is tested at all its entries by computation. Assumes nothing.
use mathlib.Core.Path.{refl}
use Rattle.crc.specs.Crc.{table_of, entries_from, byte_step, bit_steps, bit_step}
use Rattle.crc.proofs.remainders8.Goals as goal

pub returns : goal.returns
unfolding table_of entries_from byte_step bit_steps bit_step
returns c = refl
