-- What each exported reader hands back of the one reader's report: the command's number, and the values of its own kind.
use Rattle.std.specs.Prelude.{ℕ, cond, eqb, ℤ, pos}
use Rattle.commands2.specs.declared.ChannelList.{ChannelList}
use Rattle.commands2.specs.declared.Command.{Command}
use Rattle.commands2.specs.declared.Command.TheVariants.{Init, InitAck, UnknownCommand, Watchdog, GetStimulationMode, GetStimulationModeAck, InitChannelListMode, InitChannelListModeAck, Other}
use Rattle.commands2.specs.Commands.{number_of}
use Rattle.reader2.specs.declared.Read.{Read}
use Rattle.packet_readers.specs.declared.packet.Values.{Values}
use Rattle.packet_readers.specs.declared.packet.ReadPacket.{ReadPacket}
use Rattle.packet_readers.specs.declared.packet.ReadEmpty.{ReadEmpty}
use Rattle.packet_readers.specs.declared.packet.ReadResult.{ReadResult}
use Rattle.packet_readers.specs.declared.init.ReadVersion.{ReadVersion}
use Rattle.packet_readers.specs.declared.unknown_command.ReadEcho.{ReadEcho}
use Rattle.packet_readers.specs.declared.get_stimulation_mode.ReadMode.{ReadMode}
use Rattle.packet_readers.specs.declared.init_channel_list_mode.ReadList.{ReadList}

abbrev pub no_list : ChannelList
no_list = record { factor = 0; active = 0; lf = 0; inter = 0; main = 0; execution = 0 }

abbrev pub values : ℕ → ℕ → ℤ → ℕ → ChannelList → Values
values version echo result mode list = record { version = version; echo = echo; result = result; mode = mode; list = list }

-- the values of a command, zero where it has none of that kind
abbrev pub values_of : Command → Values
values_of (Init version) = values version 0 (pos 0) 0 no_list
values_of (InitAck result) = values 0 0 result 0 no_list
values_of (UnknownCommand echo) = values 0 echo (pos 0) 0 no_list
values_of Watchdog = values 0 0 (pos 0) 0 no_list
values_of GetStimulationMode = values 0 0 (pos 0) 0 no_list
values_of (GetStimulationModeAck result mode) = values 0 0 result mode no_list
values_of (InitChannelListMode list) = values 0 0 (pos 0) 0 list
values_of (InitChannelListModeAck result) = values 0 0 result 0 no_list
values_of (Other number) = values 0 0 (pos 0) 0 no_list

unfoldable pub as_packet : Read → ReadPacket
as_packet r =
    let v : Values = values_of r.command in
    record {
      used = r.used;
      answer = r.answer;
      packet = r.packet;
      command = number_of r.command;
      size = r.size;
      version = v.version;
      echo = v.echo;
      mode = v.mode;
      result = v.result;
      factor = v.list.factor;
      active = v.list.active;
      lf = v.list.lf;
      inter = v.list.inter;
      main = v.list.main;
      execution = v.list.execution;
    }

abbrev pub as_empty : ReadPacket → ReadEmpty
as_empty p = record { used = p.used; answer = p.answer; packet = p.packet; command = p.command; size = p.size }

abbrev pub as_version : ReadPacket → ReadVersion
as_version p =
    record { used = p.used; answer = p.answer; packet = p.packet; command = p.command; size = p.size; version = p.version }

abbrev pub as_echo : ReadPacket → ReadEcho
as_echo p = record { used = p.used; answer = p.answer; packet = p.packet; command = p.command; size = p.size; echo = p.echo }

-- three acknowledgements have a result: it is told of the command of this number alone
unfoldable pub result_for : ℕ → ReadPacket → ℤ
result_for number p = cond (eqb p.command number) p.result (pos 0)

abbrev pub as_result : ℕ → ReadPacket → ReadResult
as_result number p =
    record {
      used = p.used;
      answer = p.answer;
      packet = p.packet;
      command = p.command;
      size = p.size;
      result = result_for number p;
    }

abbrev pub as_mode : ReadPacket → ReadMode
as_mode p =
    record {
      used = p.used;
      answer = p.answer;
      packet = p.packet;
      command = p.command;
      size = p.size;
      result = result_for 11 p;
      mode = p.mode;
    }

abbrev pub as_list : ReadPacket → ReadList
as_list p =
    record {
      used = p.used;
      answer = p.answer;
      packet = p.packet;
      command = p.command;
      size = p.size;
      factor = p.factor;
      active = p.active;
      lf = p.lf;
      inter = p.inter;
      main = p.main;
      execution = p.execution;
    }
