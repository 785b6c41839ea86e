-- A packet of ScienceMode2 (request 12; source 000, section 2.2): two bytes of checksum, two of length, and what both cover, which is packet number,
-- command and data.
use Rattle.std.specs.Prelude.{ℕ, Bool, ◌&&◌, List, [], ◌∷◌, eqb, leb, length, drop, get_or}
use Rattle.std.specs.Int.Bits.{bit_xor}
use Rattle.crc.specs.Crc.{crc8}
use Rattle.stuffing.specs.Stuffing.{stuffing_byte, stuffing_key, stuffed}
use Rattle.packets.specs.Generation.{Generation}
use Rattle.commands2.specs.declared.Command.{Command}
use Rattle.commands2.specs.declared.Command.TheVariants.{Other}
use Rattle.commands2.specs.Commands.{command_of, right}

-- "The checksum and data length are both 1 byte, but always stuffed, therefore 2 bytes long. They are computed from the stuffed packet number, the
-- command and the command data."
unfoldable pub header_of : List ℕ → List ℕ
header_of content = crc8 (stuffed content) ∷ length (stuffed content) ∷ []

unfoldable pub check_right : List ℕ → Bool
check_right body = eqb (get_or body 0 0) stuffing_byte && eqb (get_or body 1 0) (bit_xor (crc8 (drop 4 body)) stuffing_key)

unfoldable pub length_right : List ℕ → Bool
length_right body = eqb (get_or body 2 0) stuffing_byte && eqb (get_or body 3 0) (bit_xor (length (drop 4 body)) stuffing_key)

-- "Packet number 1 Byte, Command 1 Byte, Command data < 61 Byte"
unfoldable pub size_good : ℕ → Bool
size_good size = leb 2 size && leb size 62

abbrev pub command_in : List ℕ → Command
command_in content = command_of (get_or content 1 0) (drop 2 content)

abbrev pub rehastim2 : Generation Command
rehastim2 =
    record {
      header_of = header_of;
      header = 4;
      check_right = check_right;
      length_right = length_right;
      size_good = size_good;
      packet_in = λ content. get_or content 0 0;
      command_in = command_in;
      right = λ content. right (command_in content) (length (drop 2 content));
      no_command = Other 0;
      longest = 60;
    }
