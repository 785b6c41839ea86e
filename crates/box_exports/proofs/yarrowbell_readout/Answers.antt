use Rattle.box_exports.proofs.yarrowbell_readout.Goals as goal

pub returns : goal.returns
returns c = c.readout.ensures
