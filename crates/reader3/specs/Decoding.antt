-- The RehaMove3's packets as the reader's code takes them: what is told of a content is its decoded value, the net charge beside the message.
use Rattle.packets.specs.Generation.{Generation}
use Rattle.packets.specs.Laws.{Lawful}
use Rattle.packets.specs.Reader.{Reading}
use Rattle.reader3.specs.declared.Read.{Read}
use Rattle.charge.specs.Charge.{charge_of}
use Rattle.commands3.specs.Contents.{packet_in, size_good, content_right, no_message}
use Rattle.decode3.specs.declared.Decoded.{Decoded}
use Rattle.decode3.specs.Decoded.{taken}
use Rattle.packets3.specs.Rehamove3.{header_of, check_right, length_right}
use Rattle.packets3.proofs.Lawful as Rehamove3

abbrev pub nothing : Decoded
nothing = record { packet = 0; message = no_message; charge = charge_of no_message.pulse }

abbrev pub decoding : Generation Decoded
decoding =
    record {
      header_of = header_of;
      header = 8;
      check_right = check_right;
      length_right = length_right;
      size_good = size_good;
      packet_in = packet_in;
      command_in = taken;
      right = content_right;
      no_command = nothing;
      longest = 1188;
    }

-- what is reported of it
abbrev pub as_decoded : Reading Decoded → Read
as_decoded r = record { answer = r.answer; used = r.used; packet = r.packet; message = r.command.message; size = r.size; charge = r.command.charge }

-- header, check sum and length are the same
pub lawful : Lawful decoding
lawful =
    let l = Rehamove3.lawful in record { covered_for = l.covered_for; check_for = l.check_for; made_again = l.made_again; short_data = l.short_data }
