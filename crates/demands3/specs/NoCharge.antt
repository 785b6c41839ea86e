-- No written pulse has a net charge (request 13).
use Rattle.std.specs.Prelude.{ℕ, ◌≡◌, List, pos, length}
use Rattle.packets.specs.Reader.{reading}
use Rattle.packets.specs.Line.{packet_at}
use Rattle.charge.specs.Charge.{charge_of}
use Rattle.commands3.specs.declared.Message.{Message}
use Rattle.packets3.specs.Rehamove3.{rehamove3}
use Rattle.packets3.specs.Writer.{packet_bytes, wrote}

pub record NoCharge : Type 0 where
  pub written : (packet : ℕ) (m : Message) (out : List ℕ) → (wrote packet m out).answer ≡ 0 → charge_of m.pulse ≡ pos 0
  -- "refuse to write one whose net charge is not zero, also with 4", whatever else is wrong with it and however short the output is
  pub refused : (packet : ℕ) (m : Message) (out : List ℕ) → (charge_of m.pulse ≡ pos 0 → ⊥) → (wrote packet m out).answer ≡ 4
  -- and of any bytes in which the first finished packet is one that was written none is read
  pub read : (packet : ℕ) (m : Message) → length m.pulse.points ≡ 16 → (to : List ℕ) → (wrote packet m to).answer ≡ 0
      → (s out : List ℕ) → packet_at s ≡ packet_bytes packet m → charge_of (reading rehamove3 s (length out)).command.pulse ≡ pos 0
