-- An input for each number that reader and writer give, and no other number. Assumes nothing.
use Prim.Native.Nat.{ℕ}
use mathlib.Core.Path.{refl}
use mathlib.Core.List.{List, [], ◌∷◌}
use lib.ListN.{replicate}
use Rattle.crc.specs.Crc.{bit_step, bit_steps, byte_step, crc}
use Rattle.stuffing.specs.Stuffing.{special, stuffed_byte, stuffed, pairs, opens_pair, wrong_in, pairs_good, plain_of, unstuffed}
use Rattle.framing.specs.Packet.{body_of, packet_of}
use Rattle.framing.specs.Scan.{opens, closes, opened, scan, body_at}
use Rattle.packets.specs.Reader.{answered, reading}
use Rattle.packets.specs.Writer.{framed, wrote_of}
use Rattle.packets.proofs.WhichAnswers.{reader_given, writer_given}
use Rattle.commands2.specs.declared.Command.TheVariants.{Watchdog, Other}
use Rattle.commands2.specs.Commands.{good, command_of, right}
use Rattle.packets2.specs.Rehastim2.{header_of, check_right, length_right, size_good, rehastim2}
use Rattle.writer2.specs.Writer.{packet_bytes}
use Rattle.demands2.specs.WhichAnswers.{AnswersGiven}

-- the packet of an Init
abbrev an_init : List ℕ
an_init = 0xF0 ∷ 0x81 ∷ 0x2C ∷ 0x81 ∷ 0x56 ∷ 0x01 ∷ 0x01 ∷ 0x01 ∷ 0x0F ∷ []

pub answers_given : AnswersGiven
unfolding bit_step bit_steps byte_step crc special stuffed_byte stuffed pairs opens_pair wrong_in pairs_good plain_of unstuffed body_of packet_of opens closes opened scan body_at command_of right check_right length_right size_good answered reading header_of framed wrote_of
answers_given =
    record {
      reader_gives =
          record {
            no_other = λ x. reader_given rehastim2 x.0 x.1;
            inputs = (an_init, 1) ∷ ([], 0) ∷ (0xF0 ∷ 0x0F ∷ [], 0) ∷ (0xF0 ∷ 0x81 ∷ 0x55 ∷ 0x0F ∷ [], 0) ∷ (an_init, 0) ∷ [];
            each = refl;
          };
      writer_gives =
          record {
            no_other = λ x. writer_given (good x.1) (packet_bytes x.0 x.1) x.2;
            inputs = (1, Watchdog, replicate 8 0) ∷ (1, Other 5, []) ∷ (1, Watchdog, []) ∷ [];
            each = refl;
          };
    }
