use Rattle.bits.proofs.Fields.{or_below}
use Rattle.bits.proofs.joined.Goals as goal

pub returns : goal.returns
returns c = or_below _ c.args.width _ c.requires.0 c.requires.1
