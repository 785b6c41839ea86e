-- The examples, by computation. Assumes nothing.
use mathlib.Core.Path.{refl}
use Rattle.crc.specs.Crc.{bit_step, bit_steps, byte_step, crc}
use Rattle.stuffing.specs.Stuffing.{special, stuffed_byte, stuffed, pairs, opens_pair, wrong_in, pairs_good, plain_of, unstuffed}
use Rattle.framing.specs.Packet.{body_of, packet_of}
use Rattle.framing.specs.Scan.{opens, closes, opened, scan, body_at}
use Rattle.packets.specs.Reader.{answered, put, reading, data_put}
use Rattle.packets.specs.Writer.{framed}
use Rattle.packets.specs.Row.{along}
use Rattle.commands2.specs.Results.{no_error, good_result, byte_of, signed_of}
use Rattle.commands2.specs.Commands.{command_of, right}
use Rattle.packets2.specs.Rehastim2.{header_of, check_right, length_right, size_good}
use Rattle.demands2.specs.Examples.{examples, Claim}

pub claim : Claim
unfolding bit_step bit_steps byte_step crc special stuffed_byte stuffed pairs opens_pair wrong_in pairs_good plain_of unstuffed body_of packet_of opens closes opened scan body_at no_error good_result byte_of signed_of command_of right check_right length_right size_good answered put reading data_put header_of framed along examples
claim = record { reads = refl; puts = refl; writes = refl; row = refl }
