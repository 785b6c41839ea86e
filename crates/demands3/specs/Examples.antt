-- Packets as they stand on the line, hexadecimal, and what is read of them; messages as they are written, or refused; a row of packets.
use Rattle.std.specs.Prelude.{ℕ, ◌≡◌, List, [], ◌∷◌, ◌++◌, map, ℤ, pos, negsuc, length, take, replicate}
use Rattle.commands.specs.declared.Wrote.{Wrote}
use Rattle.packets.specs.Reader.{Reading, refused, reading, data_put}
use Rattle.packets.specs.Row.{readings}
use Rattle.charge.specs.declared.Point.{Point}
use Rattle.charge.specs.Charge.{charge_of}
use Rattle.commands3.specs.declared.Message.{Message}
use Rattle.commands3.specs.declared.Command.TheVariants.{LlInit, LlChannelConfig, LlChannelConfigAck, LlStop, Other}
use Rattle.commands3.specs.Points.{no_point}
use Rattle.commands3.specs.Commands.{alone}
use Rattle.packets3.specs.Rehamove3.{rehamove3}
use Rattle.packets3.specs.Writer.{packet_bytes, wrote}
use Rattle.demands3.specs.Section7.{ll_init, ll_channel_config, ll_stop, ml_init, ml_update, ml_get_current_data, ml_stop}

-- bytes, how much room the output has, what is read of them, and the net charge of that
pub record Example : Type 0 where
  pub bytes : List ℕ
  pub room : ℕ
  pub read : Reading Message
  pub charge : ℤ

-- a packet: the bytes used, its number, its message and how many data bytes it has
abbrev pub packet_read : ℕ → ℕ → Message → ℕ → Reading Message
packet_read used packet m size = record { answer = 0; used = used; packet = packet; command = m; size = size }

-- into an output as long as its data
abbrev pub example : List ℕ → Reading Message → ℤ → Example
example bytes read charge = record { bytes = bytes; room = read.size; read = read; charge = charge }

-- no packet: the output's room, the answer and the bytes used
abbrev pub none : List ℕ → ℕ → ℕ → ℕ → Example
none bytes room answer used = record { bytes = bytes; room = room; read = refused rehamove3 answer used; charge = pos 0 }

-- ---- messages

abbrev pub point : ℕ → ℕ → Point
point duration code = record { duration = duration; code = code }

-- on the red channel, executed or not
abbrev pub config : ℕ → List Point → Message
config execution points =
    record { command = LlChannelConfig execution 0; pulse = record { number = length points; points = take 16 (points ++ replicate 16 no_point) } }

-- "Point 1: 250 µs, 20 mA; Point 2: 100 µs, 0 mA; Point 3: 250 µs, -20 mA"
abbrev pub biphasic : Message
biphasic = config 1 (point 250 340 ∷ point 100 300 ∷ point 250 260 ∷ [])

-- 250 µs of 20 mA, and 250 µs of -19.5 mA: half a milliamp for 250 µs is left
abbrev pub uneven : Message
uneven = config 1 (point 250 340 ∷ point 250 261 ∷ [])

-- 4095 µs of -130 mA alone: -260 * 4095
abbrev pub negative : Message
negative = config 0 (point 4095 40 ∷ [])

-- ---- their packets, and others

abbrev pub uneven_bytes : List ℕ
uneven_bytes =
    0xF0 ∷ 0x81 ∷ 0x55 ∷ 0x81 ∷ 0x4D ∷ 0x81 ∷ 0x35 ∷ 0x81 ∷ 0x13 ∷ 0x04 ∷ 0x02 ∷ 0x81 ∷ 0xD4 ∷ 0x81 ∷ 0x5A ∷ 0xA5 ∷ 0x50 ∷ 0x00
    ∷ 0x81 ∷ 0x5A ∷ 0xA4 ∷ 0x14 ∷ 0x00 ∷ 0x0F ∷ []

abbrev pub negative_bytes : List ℕ
negative_bytes =
    0xF0 ∷ 0x81 ∷ 0x55 ∷ 0x81 ∷ 0x47 ∷ 0x81 ∷ 0x80 ∷ 0x81 ∷ 0xEA ∷ 0x04 ∷ 0x02 ∷ 0x00 ∷ 0xFF ∷ 0x81 ∷ 0xA5 ∷ 0xA0 ∷ 0x00 ∷ 0x0F ∷ []

-- an Ll_channel_config_ack whose check sum is 5AD4 and whose electrode channel is F0
abbrev pub config_ack : List ℕ
config_ack = 0xF0 ∷ 0x81 ∷ 0x55 ∷ 0x81 ∷ 0x5A ∷ 0x81 ∷ 0x0F ∷ 0x81 ∷ 0x81 ∷ 0x30 ∷ 0x03 ∷ 0x00 ∷ 0x81 ∷ 0xA5 ∷ 0x0F ∷ []

-- one point of 0 µs; the check sum, the first byte and the point's last three bytes
abbrev pub one_point : ℕ → ℕ → ℕ → ℕ → ℕ → ℕ → List ℕ
one_point high low first a b c =
    0xF0 ∷ 0x81 ∷ 0x55 ∷ 0x81 ∷ 0x44 ∷ 0x81 ∷ high ∷ 0x81 ∷ low ∷ 0x04 ∷ 0x02 ∷ first ∷ 0x00 ∷ a ∷ b ∷ c ∷ 0x0F ∷ []

-- command 6, which is not carried: the data AC 02, which makes the check sum 0, and so many zeros; the length's low byte, as it is stuffed
abbrev pub long : ℕ → ℕ → List ℕ
long size low =
    0xF0 ∷ 0x81 ∷ 0x51 ∷ 0x81 ∷ low ∷ 0x81 ∷ 0x55 ∷ 0x81 ∷ 0x55 ∷ 0x04 ∷ 0x06 ∷ 0xAC ∷ 0x02 ∷ replicate size 0 ++ 0x0F ∷ []

-- ---- the list

unfoldable pub examples : List Example
examples =
    -- section 7
    example ll_init (packet_read 13 0 (alone (LlInit 0)) 1) (pos 0)
    ∷ example ll_channel_config (packet_read 27 1 biphasic 13) (pos 0)
    ∷ example ll_stop (packet_read 12 2 (alone LlStop) 0) (pos 0)
    ∷ example ml_init (packet_read 13 0 (alone (Other 30)) 1) (pos 0)
    ∷ example ml_update (packet_read 43 1 (alone (Other 32)) 31) (pos 0)
    ∷ example ml_get_current_data (packet_read 13 2 (alone (Other 36)) 1) (pos 0)
    ∷ example ml_stop (packet_read 12 3 (alone (Other 34)) 0) (pos 0)
    -- "Reading shows any net charge"; negsuc n is -(n + 1)
    ∷ example uneven_bytes (packet_read 24 1 uneven 9) (pos 250)
    ∷ example negative_bytes (packet_read 18 1 negative 5) (negsuc 1064699)
    -- 81 0F 81 81 in the header: no stop and no further pair; where the result is not 10 the electrode's channel is any byte
    ∷ example config_ack (packet_read 15 12 (alone (LlChannelConfigAck 0 0xF0)) 2) (pos 0)
    -- 1,200 bytes, and 1,201
    ∷ example (long 1186 0xE5) (packet_read 1200 1 (alone (Other 6)) 1188) (pos 0)
    ∷ none (long 1187 0xE4) 1189 4 1201
    -- behind a start and garbage, as if it stood alone; garbage that ends in 81 hides it; no stop
    ∷ example (0xF0 ∷ 0x01 ∷ 0x02 ∷ 0x0E ∷ ll_stop ++ 0x07 ∷ []) (packet_read 16 2 (alone LlStop) 0) (pos 0)
    ∷ none (0x81 ∷ ll_stop) 0 1 0
    ∷ none (take 11 ll_stop) 0 1 0
    -- a wrong check sum, and a byte behind the stop; no check sum, by too few bytes, and by an 80 for its second 81; a length of one more
    ∷ none (0xF0 ∷ 0x81 ∷ 0x55 ∷ 0x81 ∷ 0x59 ∷ 0x81 ∷ 0x9C ∷ 0x81 ∷ 0x79 ∷ 0x08 ∷ 0x04 ∷ 0x0F ∷ 0x09 ∷ []) 0 3 12
    ∷ none (0xF0 ∷ 0x81 ∷ 0x55 ∷ 0x81 ∷ 0x5D ∷ 0x81 ∷ 0x55 ∷ 0x0F ∷ []) 0 3 8
    ∷ none (0xF0 ∷ 0x81 ∷ 0x55 ∷ 0x81 ∷ 0x59 ∷ 0x81 ∷ 0x9C ∷ 0x80 ∷ 0x78 ∷ 0x08 ∷ 0x04 ∷ 0x0F ∷ []) 0 3 12
    ∷ none (0xF0 ∷ 0x81 ∷ 0x55 ∷ 0x81 ∷ 0x58 ∷ 0x81 ∷ 0x9C ∷ 0x81 ∷ 0x78 ∷ 0x08 ∷ 0x04 ∷ 0x0F ∷ []) 0 4 12
    -- 81 0F behind the command: no stop, and a pair that the writer would not make; one byte of content
    ∷ none (0xF0 ∷ 0x81 ∷ 0x55 ∷ 0x81 ∷ 0x5B ∷ 0x81 ∷ 0xD5 ∷ 0x81 ∷ 0x10 ∷ 0x08 ∷ 0x04 ∷ 0x81 ∷ 0x0F ∷ 0x0F ∷ []) 0 4 14
    ∷ none (0xF0 ∷ 0x81 ∷ 0x55 ∷ 0x81 ∷ 0x5E ∷ 0x81 ∷ 0xD4 ∷ 0x81 ∷ 0x5D ∷ 0x08 ∷ 0x0F ∷ []) 0 4 11
    -- codes 560, 561 and 39, where the duration is 0; two points promised and one there
    ∷ example (one_point 0xA0 0x26 0x00 0x08 0xC0 0x00) (packet_read 17 1 (config 0 (point 0 560 ∷ [])) 5) (pos 0)
    ∷ none (one_point 0x6C 0xE2 0x00 0x08 0xC4 0x00) 5 4 17
    ∷ none (one_point 0x42 0x55 0x00 0x00 0x9C 0x00) 5 4 17
    ∷ none (one_point 0x77 0x4F 0x01 0x04 0xB0 0x00) 5 4 17
    -- a reserved bit set in a config's first byte, in a point, and in an init; high voltage 7; result 3; the electrode's channel 4 with result 10
    ∷ none (one_point 0xD9 0x44 0x10 0x04 0xB0 0x00) 5 4 17
    ∷ none (one_point 0xCD 0x3F 0x00 0x04 0xB0 0x01) 5 4 17
    ∷ none (0xF0 ∷ 0x81 ∷ 0x55 ∷ 0x81 ∷ 0x58 ∷ 0x81 ∷ 0x45 ∷ 0x81 ∷ 0x74 ∷ 0x00 ∷ 0x00 ∷ 0x01 ∷ 0x0F ∷ []) 1 4 13
    ∷ none (0xF0 ∷ 0x81 ∷ 0x55 ∷ 0x81 ∷ 0x58 ∷ 0x81 ∷ 0xB4 ∷ 0x81 ∷ 0x9B ∷ 0x00 ∷ 0x00 ∷ 0x0E ∷ 0x0F ∷ []) 1 4 13
    ∷ none (0xF0 ∷ 0x81 ∷ 0x55 ∷ 0x81 ∷ 0x58 ∷ 0x81 ∷ 0x8A ∷ 0x81 ∷ 0xC7 ∷ 0x04 ∷ 0x01 ∷ 0x03 ∷ 0x0F ∷ []) 1 4 13
    ∷ none (0xF0 ∷ 0x81 ∷ 0x55 ∷ 0x81 ∷ 0x5B ∷ 0x81 ∷ 0x69 ∷ 0x81 ∷ 0xBB ∷ 0x04 ∷ 0x03 ∷ 0x0A ∷ 0x04 ∷ 0x0F ∷ []) 2 4 14
    -- an output too short
    ∷ none ll_channel_config 12 16 0
    ∷ []

-- ---- writing into an output of so much room: a message under a packet number, and what is handed back

abbrev pub wrote_into : ℕ → ℕ → Message → Wrote
wrote_into room packet m = wrote packet m (replicate room 0)

abbrev pub gave : ℕ → ℕ → Wrote
gave answer used = record { answer = answer; used = used }

-- ---- the claim

pub record Claim : Type 0 where
  pub reads : map (λ (e : Example). reading rehamove3 e.bytes e.room) examples ≡ map (λ (e : Example). e.read) examples
  pub charges : map (λ (e : Example). charge_of e.read.command.pulse) examples ≡ map (λ (e : Example). e.charge) examples
  pub puts : data_put rehamove3 ml_get_current_data (replicate 3 0xBB) ≡ 0x02 ∷ 0xBB ∷ 0xBB ∷ []
  pub writes : packet_bytes 0 (alone (LlInit 0)) ∷ packet_bytes 1 biphasic ∷ packet_bytes 2 (alone LlStop) ∷ [] ≡ ll_init ∷ ll_channel_config ∷ ll_stop ∷ []
  -- as long as its packet; a byte shorter; a net charge, even where nothing is executed; a packet number of 64; a command that is not carried
  pub answers : wrote_into 27 1 biphasic ∷ wrote_into 26 1 biphasic ∷ wrote_into 27 1 uneven ∷ wrote_into 27 1 negative ∷ wrote_into 27 64 biphasic
      ∷ wrote_into 27 1 (alone (Other 6)) ∷ []
      ≡ gave 0 27 ∷ gave 16 0 ∷ gave 4 0 ∷ gave 4 0 ∷ gave 4 0 ∷ gave 4 0 ∷ []
  pub row : readings rehamove3 (ll_init ++ 0x0F ∷ 0xF0 ∷ 0x05 ∷ uneven_bytes ++ ml_stop)
      ≡ packet_read 13 0 (alone (LlInit 0)) 1 ∷ packet_read 40 1 uneven 9 ∷ packet_read 52 3 (alone (Other 34)) 0 ∷ []
