use mathlib.Core.Path.{◌∙◌}
use lib.ListN.{take}
use Rattle.arrival.proofs.Arrivals.{whole_settled}
use Rattle.arrival.proofs.finish.Goals as goal

pub returns : goal.returns
returns c =
    let q = c.args.q.now in
    c.settle.ensures ∙ rw c.decide.ensures (whole_settled c.args.b.now (take q.len q.bytes) c.requires.1)
