use Rattle.box_exports.proofs.yarrowbell_tick.Goals as goal

pub returns : goal.returns
returns c = c.tick.ensures
