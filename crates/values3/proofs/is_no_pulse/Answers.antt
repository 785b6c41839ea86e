-- `values3::is_no_pulse` meets its contract. Assumes nothing.
use Rattle.std.proofs.Common.{◌∙◌, arith}
use Rattle.values3.proofs.Tests.{no_pulse_lem}
use Rattle.values3.proofs.is_no_pulse.Goals as goal

pub returns : goal.returns
returns c = c.eq.ensures ∙ no_pulse_lem c.args.p (omega (arith, c.well_formed))
