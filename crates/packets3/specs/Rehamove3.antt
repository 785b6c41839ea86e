-- The packets of the RehaMove3 (source 002, section 2.2; request 13). High bytes come first, as in every example of section 7.
use Rattle.std.specs.Prelude.{ℕ, ◌+◌, ◌/◌, ◌%◌, Bool, ◌&&◌, List, ◌++◌, eqb, leb, length, drop, get_or}
use Rattle.std.specs.Int.Bits.{bit_xor}
use Rattle.crc.specs.Crc.{crc16}
use Rattle.stuffing.specs.Stuffing.{stuffing_byte, stuffing_key, stuffed}
use Rattle.packets.specs.Generation.{Generation}
use Rattle.commands3.specs.declared.Message.{Message}
use Rattle.commands3.specs.Contents.{two, packet_in, message_in, size_good, content_right, no_message}

-- ---- writing

-- "The packet length (2 Byte) is the full length of the packet including the start and the stop byte": the content, stuffed, and ten bytes around it.
-- "The check sum is the CRC-CCITT 2 Byte (16 Bit) and is generated from the stuffed packet data."
unfoldable pub header_of : List ℕ → List ℕ
header_of content = two (length (stuffed content) + 10) ++ two (crc16 (stuffed content))

-- ---- reading: a body is what stands between start and stop, four bytes of length, four of check sum, and what the check sum covers

-- "It is always stuffed and therefore uses 4 Bytes": the first four of these bytes say n
unfoldable pub says : List ℕ → ℕ → Bool
says d n =
    eqb (get_or d 0 0) stuffing_byte
    && (eqb (get_or d 1 0) (bit_xor (n / 256) stuffing_key)
    && (eqb (get_or d 2 0) stuffing_byte
    && eqb (get_or d 3 0) (bit_xor (n % 256) stuffing_key)))

-- of a body without four such bytes it is missing: the check sum of no bytes is 0, and a byte that is not there is 0 and no stuffed one
unfoldable pub check_right : List ℕ → Bool
check_right body = says (drop 4 body) (crc16 (drop 8 body))

-- "The maximum packet length including stuffing is 1200 Bytes."
unfoldable pub length_right : List ℕ → Bool
length_right body = leb (length body + 2) 1200 && says body (length body + 2)

abbrev pub rehamove3 : Generation Message
rehamove3 =
    record {
      header_of = header_of;
      header = 8;
      check_right = check_right;
      length_right = length_right;
      size_good = size_good;
      packet_in = packet_in;
      command_in = message_in;
      right = content_right;
      no_command = no_message;
      longest = 1188;
    }
