-- `reader3::Rehamove3::told` meets its contract. Assumes nothing.
use mathlib.Core.Path.{sym, ◌∙◌}
use Rattle.reader3.proofs.Decoding.{told_none, told_some, told_two}
use Rattle.reader3.proofs.Rehamove3Protocol1190.told.Goals as goal

pub overflow_sub-result : goal.overflow_sub-result
overflow_sub-result c = told_two c.args.content.now c.in_ok-command.command (sym c.in_ok-command.was ∙ c.decode.ensures)

pub returns : goal.returns
returns c = told_some c.args.content.now c.in_ok-command.command (sym c.in_ok-command.was ∙ c.decode.ensures)

pub returns-in_err-command : goal.returns-in_err-command
returns-in_err-command c = c.from_residual.ensures ∙ told_none c.args.content.now (sym c.in_err-command.was ∙ c.decode.ensures)
