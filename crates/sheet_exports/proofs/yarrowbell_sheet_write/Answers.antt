use Rattle.sheet_exports.proofs.yarrowbell_sheet_write.Goals as goal

pub returns : goal.returns
returns c = c.write_sheet.ensures
