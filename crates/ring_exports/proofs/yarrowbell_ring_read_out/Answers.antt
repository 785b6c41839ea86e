use Rattle.ring_exports.proofs.yarrowbell_ring_read_out.Goals as goal

pub returns : goal.returns
returns c = c.read_out.ensures
