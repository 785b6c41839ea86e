-- An input for each number that reader and writer give, and no other number. Assumes nothing.
use mathlib.Core.Path.{refl}
use mathlib.Core.List.{[], ◌∷◌}
use lib.ListN.{replicate}
use Rattle.crc.specs.Crc.{bit_step, bit_steps, byte_step, crc}
use Rattle.stuffing.specs.Stuffing.{special, stuffed_byte, stuffed, pairs, opens_pair, wrong_in, pairs_good, plain_of, unstuffed}
use Rattle.framing.specs.Packet.{body_of, packet_of}
use Rattle.framing.specs.Scan.{opens, closes, opened, scan, body_at}
use Rattle.packets.specs.Reader.{answered, reading}
use Rattle.packets.specs.Writer.{framed, wrote_of}
use Rattle.packets.proofs.WhichAnswers.{reader_given, writer_given}
use Rattle.charge.specs.Charge.{all, is_zero_point, net_of, is_zero}
use Rattle.commands3.specs.declared.Command.TheVariants.{LlStop, Other}
use Rattle.commands3.specs.Commands.{is_no_pulse, alone, message_of, reserved_clear, right}
use Rattle.commands3.specs.Contents.{content_of, writable}
use Rattle.packets3.specs.Rehamove3.{header_of, says, check_right, length_right, rehamove3}
use Rattle.packets3.specs.Writer.{packet_bytes}
use Rattle.demands3.specs.WhichAnswers.{AnswersGiven}
use Rattle.demands3.specs.Section7.{ll_init}

pub answers_given : AnswersGiven
unfolding bit_step bit_steps byte_step crc special stuffed_byte stuffed pairs opens_pair wrong_in pairs_good plain_of unstuffed body_of packet_of opens closes opened scan body_at all is_zero_point net_of is_zero is_no_pulse message_of reserved_clear right content_of says check_right length_right answered reading header_of framed wrote_of
answers_given =
    record {
      reader_gives =
          record {
            no_other = λ x. reader_given rehamove3 x.0 x.1;
            inputs =
                (ll_init, 1) ∷ ([], 0) ∷ (0xF0 ∷ 0x0F ∷ [], 0)
                ∷ (0xF0 ∷ 0x81 ∷ 0x55 ∷ 0x81 ∷ 0x5F ∷ 0x81 ∷ 0x55 ∷ 0x81 ∷ 0x55 ∷ 0x0F ∷ [], 0)
                ∷ (ll_init, 0) ∷ [];
            each = refl;
          };
      writer_gives =
          record {
            no_other = λ x. writer_given (writable x.0 x.1) (packet_bytes x.0 x.1) x.2;
            inputs = (1, alone LlStop, replicate 12 0) ∷ (1, alone (Other 6), []) ∷ (1, alone LlStop, []) ∷ [];
            each = refl;
          };
    }
