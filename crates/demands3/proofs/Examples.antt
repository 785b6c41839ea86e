-- The examples, by computation. Assumes nothing.
use mathlib.Core.Path.{refl}
use Rattle.crc.specs.Crc.{bit_step, bit_steps, byte_step, crc}
use Rattle.stuffing.specs.Stuffing.{special, stuffed_byte, stuffed, pairs, opens_pair, wrong_in, pairs_good, plain_of, unstuffed}
use Rattle.framing.specs.Packet.{body_of, packet_of}
use Rattle.framing.specs.Scan.{opens, closes, opened, scan, body_at}
use Rattle.packets.specs.Reader.{answered, put, reading, data_put}
use Rattle.packets.specs.Writer.{framed, wrote_of}
use Rattle.packets.specs.Row.{along}
use Rattle.charge.specs.Charge.{of_paper, within_limit, point_good, all, is_zero_point, pulse_good, part_of, net_of, is_zero}
use Rattle.commands3.specs.Points.{point_bytes, bytes_of, point_in, points_in, points_clear}
use Rattle.commands3.specs.Commands.{is_no_pulse, message_of, reserved_clear, right}
use Rattle.commands3.specs.Contents.{content_of}
use Rattle.packets3.specs.Rehamove3.{header_of, says, check_right, length_right}
use Rattle.demands3.specs.Examples.{examples, Claim}

pub claim : Claim
unfolding bit_step bit_steps byte_step crc special stuffed_byte stuffed pairs opens_pair wrong_in pairs_good plain_of unstuffed body_of packet_of opens closes opened scan body_at of_paper within_limit point_good all is_zero_point pulse_good part_of net_of is_zero point_bytes bytes_of point_in points_in points_clear is_no_pulse message_of reserved_clear right content_of says check_right length_right answered put reading data_put header_of framed wrote_of along examples
claim = record { reads = refl; charges = refl; puts = refl; writes = refl; answers = refl; row = refl }
