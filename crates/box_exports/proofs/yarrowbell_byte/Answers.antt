use Rattle.box_exports.proofs.yarrowbell_byte.Goals as goal

pub returns : goal.returns
returns c = c.byte.ensures
