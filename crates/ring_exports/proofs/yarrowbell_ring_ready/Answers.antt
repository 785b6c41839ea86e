use Rattle.std.proofs.Common.{◌∙◌}
use Rattle.ring_exports.proofs.yarrowbell_ring_ready.Goals as goal

pub returns : goal.returns
returns c = c.answer.ensures ∙ c.ready.ensures
