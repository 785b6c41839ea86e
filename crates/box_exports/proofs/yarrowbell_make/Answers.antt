use Rattle.box_exports.proofs.yarrowbell_make.Goals as goal

pub returns : goal.returns
returns c = c.make.ensures
