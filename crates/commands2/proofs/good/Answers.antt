-- `commands2::good` meets its contract: the mode is good by whether the result is 0. Assumes nothing.
use mir.Syntax.{w8}
use mir.Val.{SFits}
use mir.Facts.{to_z-of_z}
use borrow.Author.Rules.{rules}
use Rattle.commands2.proofs.Bytes.{no_error_bits}
use Rattle.commands2.proofs.good.Goals as goal

pub returns-in-GetStimulationModeAck : goal.returns-in-GetStimulationModeAck
returns-in-GetStimulationModeAck c =
    let m = c.in-GetStimulationModeAck in
    let fits : SFits w8 m.result = search rules in
    rw (m.is, c.good-in-GetStimulationModeAck.ensures, c.good_mode.ensures, to_z-of_z fits, no_error_bits m.result fits)
