use native.Mathlib.Omega.{arith}
use Rattle.commands.specs.Commands.{Command.single}
use Rattle.writers.proofs.Outcomes.{wrote_short, written_short}
use Rattle.writers.proofs.write_single.Goals as goal

pub returns-in_err-used : goal.returns-in_err-used
returns-in_err-used c =
    let a = c.args in
    let told = wrote_short (single a.v) a.out.now in
    let kept = written_short (single a.v) a.out.now in
    grind (arith, told, kept)
