use lib.Pow.{pow_pos}
use lib.Bits.{and_mask}
use Rattle.bits.proofs.Fields.{one_shifted}
use Rattle.bits.proofs.low_bits.Goals as goal

pub overflow_sub-result : goal.overflow_sub-result
overflow_sub-result c = rw (one_shifted c.args.width c.requires) (pow_pos c.args.width)

pub returns : goal.returns
returns c = rw (one_shifted c.args.width c.requires) (and_mask _ c.args.width)
