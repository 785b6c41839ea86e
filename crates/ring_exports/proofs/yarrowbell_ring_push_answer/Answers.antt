use Rattle.ring_exports.proofs.yarrowbell_ring_push_answer.Goals as goal

pub returns : goal.returns
returns c = c.push.ensures
