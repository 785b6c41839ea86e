use mathlib.Core.Path.{◌∙◌}
use Rattle.commands.specs.Commands.{Command.single}
use Rattle.checks.proofs.Reduced.{check_as_one_goes}
use Rattle.checks.proofs.check_single.Goals as goal

pub returns : goal.returns
returns c = c.from.ensures ∙ c.plus_entry.ensures ∙ check_as_one_goes (single c.args.v)
