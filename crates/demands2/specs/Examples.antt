-- Packets as they stand on the line, hexadecimal, and what is read of them; a packet as it is written; a row of two.
use Rattle.std.specs.Prelude.{ℕ, ◌≡◌, List, [], ◌∷◌, ◌++◌, map, pos, negsuc, replicate}
use Rattle.packets.specs.Reader.{Reading, refused, reading, data_put}
use Rattle.packets.specs.Row.{readings}
use Rattle.commands2.specs.declared.ChannelList.{ChannelList}
use Rattle.commands2.specs.declared.Command.{Command}
use Rattle.commands2.specs.declared.Command.TheVariants.{Init, InitAck, Watchdog, GetStimulationModeAck, InitChannelListMode, Other}
use Rattle.packets2.specs.Rehastim2.{rehastim2}
use Rattle.writer2.specs.Writer.{packet_bytes}

-- bytes, how much room the output has, and what is read of them
pub record Example : Type 0 where
  pub bytes : List ℕ
  pub room : ℕ
  pub read : Reading Command

abbrev pub example : List ℕ → ℕ → Reading Command → Example
example bytes room read = record { bytes = bytes; room = room; read = read }

-- a packet: the bytes used, its number, its command and how many data bytes it has
abbrev pub packet_read : ℕ → ℕ → Command → ℕ → Reading Command
packet_read used packet command size = record { answer = 0; used = used; packet = packet; command = command; size = size }

-- no packet: the answer and the bytes used
abbrev pub none : ℕ → ℕ → Reading Command
none answer used = refused rehastim2 answer used

-- ---- packets of more than one example

-- a Watchdog whose checksum is A5
abbrev pub watchdog : List ℕ
watchdog = 0xF0 ∷ 0x81 ∷ 0xF0 ∷ 0x81 ∷ 0x57 ∷ 0xC4 ∷ 0x04 ∷ 0x0F ∷ []

-- protocol version 1
abbrev pub init : List ℕ
init = 0xF0 ∷ 0x81 ∷ 0x2C ∷ 0x81 ∷ 0x56 ∷ 0x01 ∷ 0x01 ∷ 0x01 ∷ 0x0F ∷ []

-- channels 1 to 4, which 0F says, stuffed to 81 5A; the main stimulation interval at its largest, 2048, high byte first
abbrev pub four_channels : ChannelList
four_channels = record { factor = 2; active = 0x0F; lf = 1; inter = 13; main = 2048; execution = 1 }

abbrev pub list_mode : List ℕ
list_mode =
    0xF0 ∷ 0x81 ∷ 0x24 ∷ 0x81 ∷ 0x5F
    ∷ 0x01 ∷ 0x1E ∷ 0x02 ∷ 0x81 ∷ 0x5A ∷ 0x01 ∷ 0x0D ∷ 0x08 ∷ 0x00 ∷ 0x01 ∷ 0x0F ∷ []

-- command 32, which is not carried, with the data 01 02 F0
abbrev pub other : List ℕ
other = 0xF0 ∷ 0x81 ∷ 0x09 ∷ 0x81 ∷ 0x53 ∷ 0x01 ∷ 0x20 ∷ 0x01 ∷ 0x02 ∷ 0x81 ∷ 0xA5 ∷ 0x0F ∷ []

-- the same with zeros for data; the checksum and the length, as they are stuffed
abbrev pub zeros : ℕ → ℕ → ℕ → List ℕ
zeros size check long = 0xF0 ∷ 0x81 ∷ check ∷ 0x81 ∷ long ∷ 0x01 ∷ 0x20 ∷ replicate size 0 ++ 0x0F ∷ []

-- ---- the list

unfoldable pub examples : List Example
examples =
    -- checksums of A5, 5A and D4, stuffed to 81 F0, 81 0F and 81 81: no start, no stop and no second pair
    example watchdog 0 (packet_read 8 196 Watchdog 0)
    ∷ example (0xF0 ∷ 0x81 ∷ 0x0F ∷ 0x81 ∷ 0x57 ∷ 0xDC ∷ 0x04 ∷ 0x0F ∷ []) 0 (packet_read 8 220 Watchdog 0)
    ∷ example (0xF0 ∷ 0x81 ∷ 0x81 ∷ 0x81 ∷ 0x57 ∷ 0x86 ∷ 0x04 ∷ 0x0F ∷ []) 0 (packet_read 8 134 Watchdog 0)
    ∷ example init 1 (packet_read 9 1 (Init 1) 1)
    -- results: FB is -5, F8 is -8; negsuc n is -(n + 1)
    ∷ example (0xF0 ∷ 0x81 ∷ 0xFB ∷ 0x81 ∷ 0x56 ∷ 0x01 ∷ 0x02 ∷ 0xFB ∷ 0x0F ∷ []) 1 (packet_read 9 1 (InitAck (negsuc 4)) 1)
    ∷ example (0xF0 ∷ 0x81 ∷ 0xA1 ∷ 0x81 ∷ 0x51 ∷ 0x01 ∷ 0x0B ∷ 0x00 ∷ 0x02 ∷ 0x0F ∷ []) 2 (packet_read 10 1 (GetStimulationModeAck (pos 0) 2) 2)
    ∷ example (0xF0 ∷ 0x81 ∷ 0x4F ∷ 0x81 ∷ 0x56 ∷ 0x01 ∷ 0x0B ∷ 0xF8 ∷ 0x0F ∷ []) 1 (packet_read 9 1 (GetStimulationModeAck (negsuc 7) 0) 1)
    ∷ example list_mode 7 (packet_read 16 1 (InitChannelListMode four_channels) 7)
    ∷ example other 3 (packet_read 12 1 (Other 32) 3)
    -- 60 bytes of data, and 61
    ∷ example (zeros 60 0x8D 0x6B) 60 (packet_read 68 1 (Other 32) 60)
    ∷ example (zeros 61 0x53 0x6A) 61 (none 4 69)
    -- behind a start and garbage, as if it stood alone; garbage that ends in 81 hides it; no stop
    ∷ example (0xF0 ∷ 0x01 ∷ 0x02 ∷ 0x0E ∷ watchdog ++ 0x07 ∷ 0x07 ∷ []) 0 (packet_read 12 196 Watchdog 0)
    ∷ example (0x81 ∷ watchdog) 0 (none 1 0)
    ∷ example (0xF0 ∷ 0x81 ∷ 0xF0 ∷ 0x81 ∷ 0x57 ∷ 0xC4 ∷ 0x04 ∷ []) 0 (none 1 0)
    -- a wrong checksum, and bytes behind the stop; no checksum
    ∷ example (0xF0 ∷ 0x81 ∷ 0xF1 ∷ 0x81 ∷ 0x57 ∷ 0xC4 ∷ 0x04 ∷ 0x0F ∷ 0x09 ∷ []) 0 (none 3 8)
    ∷ example (0xF0 ∷ 0x0F ∷ []) 0 (none 3 2)
    -- a right checksum over nothing, and no length; a wrong length
    ∷ example (0xF0 ∷ 0x81 ∷ 0x55 ∷ 0x0F ∷ []) 0 (none 4 4)
    ∷ example (0xF0 ∷ 0x81 ∷ 0x5C ∷ 0x81 ∷ 0x56 ∷ 0x01 ∷ 0x04 ∷ 0x0F ∷ []) 0 (none 4 8)
    -- 81 0F behind the command: no stop, and a pair that the writer would not make
    ∷ example (0xF0 ∷ 0x81 ∷ 0x66 ∷ 0x81 ∷ 0x51 ∷ 0x01 ∷ 0x04 ∷ 0x81 ∷ 0x0F ∷ 0x0F ∷ []) 0 (none 4 10)
    -- no command; a result of -9; a mode with a result of -1
    ∷ example (0xF0 ∷ 0x81 ∷ 0x52 ∷ 0x81 ∷ 0x54 ∷ 0x01 ∷ 0x0F ∷ []) 0 (none 4 7)
    ∷ example (0xF0 ∷ 0x81 ∷ 0xDF ∷ 0x81 ∷ 0x56 ∷ 0x01 ∷ 0x02 ∷ 0xF7 ∷ 0x0F ∷ []) 1 (none 4 9)
    ∷ example (0xF0 ∷ 0x81 ∷ 0x7F ∷ 0x81 ∷ 0x51 ∷ 0x01 ∷ 0x0B ∷ 0xFF ∷ 0x01 ∷ 0x0F ∷ []) 2 (none 4 10)
    -- an output too short
    ∷ example init 0 (none 16 0)
    ∷ []

-- ---- the claim

pub record Claim : Type 0 where
  pub reads : map (λ (e : Example). reading rehastim2 e.bytes e.room) examples ≡ map (λ (e : Example). e.read) examples
  pub puts : data_put rehastim2 other (replicate 5 0xBB) ≡ 0x01 ∷ 0x02 ∷ 0xF0 ∷ 0xBB ∷ 0xBB ∷ []
  pub writes : packet_bytes 1 (InitChannelListMode four_channels) ≡ list_mode
  pub row : readings rehastim2 (watchdog ++ 0x0F ∷ 0xF0 ∷ 0x05 ∷ init) ≡ packet_read 8 196 Watchdog 0 ∷ packet_read 20 1 (Init 1) 1 ∷ []
