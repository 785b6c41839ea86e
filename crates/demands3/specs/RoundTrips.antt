-- Demand 2 on packets of the RehaMove3: a written good message reads back the same; a packet that was read and is written again is the same, byte for
-- byte, for it has no don't-care bits, where the writer writes it.
use Rattle.std.specs.Prelude.{ℕ, ◌+◌, ◌*◌, ◌≤◌, ◌<◌, true, false, ◌≡◌, List, ◌++◌, pos, length, take, drop}
use Rattle.commands.specs.Bytes.{AreBytes}
use Rattle.packets.specs.Reader.{reading, data_put}
use Rattle.packets.specs.Writer.{framed}
use Rattle.packets.specs.Line.{Garbage, Alone, packet_at}
use Rattle.packets.specs.RoundTrips.{ReadBack}
use Rattle.charge.specs.Charge.{charge_of}
use Rattle.commands3.specs.declared.Message.{Message}
use Rattle.commands3.specs.declared.Command.TheVariants.{Other}
use Rattle.commands3.specs.Commands.{number_of, data_of, alone, message_of, is_other}
use Rattle.commands3.specs.Contents.{two}
use Rattle.packets3.specs.Rehamove3.{rehamove3}
use Rattle.packets3.specs.Writer.{packet_bytes, wrote, written}

-- what the writer wrote of a message of sixteen points, behind garbage and before any bytes, reads back as that message, whose net charge is 0
abbrev pub ReadsBack : Type 0
ReadsBack =
    (packet : ℕ) (m : Message) → length m.pulse.points ≡ 16 → (to : List ℕ) → (wrote packet m to).answer ≡ 0
    → (g rest out : List ℕ) → Garbage g → length (data_of m) ≤ length out
    → ReadBack rehamove3 (g ++ (written packet m to ++ rest)) (length g + (wrote packet m to).used) packet m (data_of m) out
    × (charge_of m.pulse ≡ pos 0)

-- packet number, command number and data
abbrev pub packet_with : ℕ → ℕ → List ℕ → List ℕ
packet_with packet number d = framed rehamove3 (two (packet * 1024 + number) ++ d)

-- the same of a packet with another command, which the writer does not write: its number and its data. "The packet number ranges from 0 to 63",
-- "Command number (10 Bit)", "The maximum packet length including stuffing is 1200 Bytes."
abbrev pub OtherReadsBack : Type 0
OtherReadsBack =
    (packet number : ℕ) (d : List ℕ) → packet ≤ 63 → number < 1024 → is_other (message_of number d).command ≡ true
    → let p = packet_with packet number d in
    length p ≤ 1200
    → (g rest out : List ℕ) → Garbage g → length d ≤ length out
    → ReadBack rehamove3 (g ++ (p ++ rest)) (length g + length p) packet (alone (Other number)) d out

-- what was read gives the packet's bytes again
pub record WritesBack (s out : List ℕ) : Type 0 where
  -- whatever its net charge, packet number, command number and data make up the packet
  pub bytes : let r = reading rehamove3 s (length out) in
      packet_with r.packet (number_of r.command.command) (take r.size (data_put rehamove3 s out)) ≡ packet_at s
  -- "Reading shows any net charge, so writing back holds for zero only."
  pub again : let r = reading rehamove3 s (length out) in
      is_other r.command.command ≡ false → charge_of r.command.pulse ≡ pos 0 → (to : List ℕ) → length (packet_at s) ≤ length to
      → written r.packet r.command to ≡ packet_at s ++ drop (length (packet_at s)) to
  pub refuses : let r = reading rehamove3 s (length out) in
      (charge_of r.command.pulse ≡ pos 0 → ⊥) → (to : List ℕ) → (wrote r.packet r.command to).answer ≡ 4

abbrev pub EachWritesBack : Type 0
EachWritesBack = (s out : List ℕ) → AreBytes s → (reading rehamove3 s (length out)).answer ≡ 0 → WritesBack s out

-- each packet of the writer is a whole one and nothing else
abbrev pub WrittenAlone : Type 0
WrittenAlone = (packet : ℕ) (m : Message) → Alone (packet_bytes packet m)
