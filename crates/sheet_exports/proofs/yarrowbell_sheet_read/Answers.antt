use Rattle.sheet_exports.proofs.yarrowbell_sheet_read.Goals as goal

pub returns : goal.returns
returns c = c.read_sheet.ensures
