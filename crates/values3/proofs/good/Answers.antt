-- `values3::good` meets its contract: beside a command without a pulse nothing is asked of a net charge. Assumes nothing.
use mathlib.Core.Path.{sym}
use mathlib.Core.Bool.{true}
use Rattle.values3.proofs.Tests.{no_charge}
use Rattle.values3.proofs.good.Goals as goal

pub returns-in-LlInit : goal.returns-in-LlInit
returns-in-LlInit c = rw (c.in-LlInit.is, c.is_no_pulse.ensures, no_charge)

pub returns-in-LlInitAck : goal.returns-in-LlInitAck
returns-in-LlInitAck c = rw (c.in-LlInitAck.is, c.good_result.ensures, c.is_no_pulse-in-LlInitAck.ensures, no_charge)

pub returns-in-LlChannelConfigAck : goal.returns-in-LlChannelConfigAck
returns-in-LlChannelConfigAck c =
    rw (
      c.in-LlChannelConfigAck.is,
      c.good_result-in-LlChannelConfigAck.ensures,
      c.good_electrode.ensures,
      c.is_no_pulse-in-LlChannelConfigAck.ensures,
      no_charge,
    )

pub returns-in-LlStop : goal.returns-in-LlStop
returns-in-LlStop c = rw (c.in-LlStop.is, c.is_no_pulse-in-LlStop.ensures) (sym (no_charge _ true))

pub returns-in-LlStopAck : goal.returns-in-LlStopAck
returns-in-LlStopAck c = rw (c.in-LlStopAck.is, c.good_result-in-LlStopAck.ensures, c.is_no_pulse-in-LlStopAck.ensures, no_charge)
