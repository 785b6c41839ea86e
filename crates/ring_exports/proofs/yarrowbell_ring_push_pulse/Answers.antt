use Rattle.ring_exports.proofs.yarrowbell_ring_push_pulse.Goals as goal

pub returns : goal.returns
returns c = c.push.ensures
