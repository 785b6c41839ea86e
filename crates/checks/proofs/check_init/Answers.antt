use mathlib.Core.Path.{◌≡◌, ◌∙◌}
use Rattle.std.proofs.Common.{rules}
use Rattle.checks.specs.Reduced.{reduced, variables_of}
use Rattle.commands.specs.Commands.{Command.init}
use Rattle.checks.proofs.Reduced.{init_as_one_goes}
use Rattle.checks.proofs.check_init.Goals as goal

pub returns : goal.returns
returns c =
    let e : c.remainder_of.result ≡ reduced 32 0 (variables_of (init c.args.v)) = search rules in
    c.from.ensures ∙ rw e (init_as_one_goes c.args.v)
