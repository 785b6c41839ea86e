use Rattle.ring_exports.proofs.yarrowbell_ring_push_trip.Goals as goal

pub returns : goal.returns
returns c = c.push.ensures
