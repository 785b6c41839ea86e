-- Demand 2 on packets of ScienceMode2: a written good command reads back the same; a packet that was read and is written again is the same, byte for
-- byte, for it has no don't-care bits.
use Rattle.std.specs.Prelude.{ℕ, ◌+◌, ◌≤◌, true, false, ◌≡◌, List, ◌∷◌, ◌++◌, length, take, drop}
use Rattle.commands.specs.Bytes.{AreBytes}
use Rattle.packets.specs.Reader.{reading, data_put}
use Rattle.packets.specs.Writer.{framed}
use Rattle.packets.specs.Line.{Garbage, Alone, packet_at}
use Rattle.packets.specs.RoundTrips.{ReadBack}
use Rattle.commands2.specs.declared.Command.{Command}
use Rattle.commands2.specs.declared.Command.TheVariants.{Other}
use Rattle.commands2.specs.Commands.{number_of, data_of, command_of, is_other}
use Rattle.packets2.specs.Rehastim2.{rehastim2}
use Rattle.writer2.specs.Writer.{packet_bytes, wrote, written}

-- each packet of the writer is whole, and nothing else
abbrev pub WrittenAlone : Type 0
WrittenAlone = (packet : ℕ) (c : Command) → Alone (packet_bytes packet c)

-- what the writer wrote, behind garbage and before any bytes, reads back as that command
abbrev pub ReadsBack : Type 0
ReadsBack =
    (packet : ℕ) (c : Command) (to : List ℕ) → (wrote packet c to).answer ≡ 0
    → (g rest out : List ℕ) → Garbage g → length (data_of c) ≤ length out
    → ReadBack rehastim2 (g ++ (written packet c to ++ rest)) (length g + (wrote packet c to).used) packet c (data_of c) out

-- the same of a packet with another command, which the writer does not write: its number and its data
abbrev pub OtherReadsBack : Type 0
OtherReadsBack =
    (packet number : ℕ) (d : List ℕ) → is_other (command_of number d) ≡ true → length d ≤ 60
    → let p = framed rehastim2 (packet ∷ number ∷ d) in
    (g rest out : List ℕ) → Garbage g → length d ≤ length out
    → ReadBack rehastim2 (g ++ (p ++ rest)) (length g + length p) packet (Other number) d out

-- what was read, written again, gives the packet's bytes
pub record WritesBack (s out : List ℕ) : Type 0 where
  pub bytes : let r = reading rehastim2 s (length out) in
      framed rehastim2 (r.packet ∷ number_of r.command ∷ take r.size (data_put rehastim2 s out)) ≡ packet_at s
  pub again : let r = reading rehastim2 s (length out) in
      is_other r.command ≡ false → (to : List ℕ) → length (packet_at s) ≤ length to
      → written r.packet r.command to ≡ packet_at s ++ drop (length (packet_at s)) to

abbrev pub EachWritesBack : Type 0
EachWritesBack = (s out : List ℕ) → AreBytes s → (reading rehastim2 s (length out)).answer ≡ 0 → WritesBack s out
