-- What each exported reader hands back of the one reader's report: the command's number, and the values of its own kind.
use Rattle.std.specs.Prelude.{ℕ, cond, eqb}
use Rattle.commands3.specs.declared.Command.{Command}
use Rattle.commands3.specs.declared.Command.TheVariants.{LlInit, LlInitAck, LlChannelConfig, LlChannelConfigAck, LlStop, LlStopAck, Other}
use Rattle.commands3.specs.Commands.{number_of}
use Rattle.reader3.specs.declared.Read.{Read}
use Rattle.packet_readers3.specs.declared.packet.Values.{Values}
use Rattle.packet_readers3.specs.declared.packet.ReadPacket.{ReadPacket}
use Rattle.packet_readers3.specs.declared.result.ReadResult.{ReadResult}
use Rattle.packet_readers3.specs.declared.ll_init.ReadVoltage.{ReadVoltage}
use Rattle.packet_readers3.specs.declared.ll_stop.ReadEmpty.{ReadEmpty}
use Rattle.packet_readers3.specs.declared.ll_channel_config.ReadConfig.{ReadConfig}
use Rattle.packet_readers3.specs.declared.ll_channel_config.ReadElectrode.{ReadElectrode}

abbrev pub values : ℕ → ℕ → ℕ → ℕ → ℕ → Values
values voltage result electrode execution channel =
    record { voltage = voltage; result = result; electrode = electrode; execution = execution; channel = channel }

-- the values of a command, zero where it has none of that kind
abbrev pub values_of : Command → Values
values_of (LlInit voltage) = values voltage 0 0 0 0
values_of (LlInitAck result) = values 0 result 0 0 0
values_of (LlChannelConfig execution channel) = values 0 0 0 execution channel
values_of (LlChannelConfigAck result electrode) = values 0 result electrode 0 0
values_of LlStop = values 0 0 0 0 0
values_of (LlStopAck result) = values 0 result 0 0 0
values_of (Other number) = values 0 0 0 0 0

-- beside a command without points stands a pulse of zeros
unfoldable pub as_packet : Read → ReadPacket
as_packet r =
    let v : Values = values_of r.message.command in
    record {
      used = r.used;
      charge = r.charge;
      command = number_of r.message.command;
      size = r.size;
      answer = r.answer;
      packet = r.packet;
      voltage = v.voltage;
      result = v.result;
      electrode = v.electrode;
      execution = v.execution;
      channel = v.channel;
      number = r.message.pulse.number;
      points = r.message.pulse.points;
    }

abbrev pub as_empty : ReadPacket → ReadEmpty
as_empty p = record { used = p.used; answer = p.answer; packet = p.packet; command = p.command; size = p.size }

abbrev pub as_voltage : ReadPacket → ReadVoltage
as_voltage p =
    record { used = p.used; answer = p.answer; packet = p.packet; command = p.command; size = p.size; voltage = p.voltage }

-- three acknowledgements have a result: it is told of the command of this number alone
unfoldable pub result_for : ℕ → ReadPacket → ℕ
result_for number p = cond (eqb p.command number) p.result 0

abbrev pub as_result : ℕ → ReadPacket → ReadResult
as_result number p =
    record {
      used = p.used;
      answer = p.answer;
      packet = p.packet;
      command = p.command;
      size = p.size;
      result = result_for number p;
    }

abbrev pub as_electrode : ReadPacket → ReadElectrode
as_electrode p =
    record {
      used = p.used;
      answer = p.answer;
      packet = p.packet;
      command = p.command;
      size = p.size;
      result = result_for 3 p;
      electrode = p.electrode;
    }

abbrev pub as_config : ReadPacket → ReadConfig
as_config p =
    record {
      used = p.used;
      charge = p.charge;
      command = p.command;
      size = p.size;
      answer = p.answer;
      packet = p.packet;
      execution = p.execution;
      channel = p.channel;
      number = p.number;
      points = p.points;
    }
