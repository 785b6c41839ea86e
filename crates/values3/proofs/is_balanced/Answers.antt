-- `values3::is_balanced` meets its contract. Assumes nothing.
use Rattle.std.proofs.Common.{◌∙◌}
use Rattle.values3.proofs.Tests.{balanced}
use Rattle.values3.proofs.is_balanced.Goals as goal

pub returns : goal.returns
returns c = rw c.eq.ensures (rw c.weigh.ensures (balanced c.args.p))
