-- "Longest stuffed packet 1,200 bytes" (request 13).
use Rattle.std.specs.Prelude.{ℕ, ◌≤◌, ◌≡◌, List, length}
use Rattle.packets.specs.Reader.{reading}
use Rattle.packets.specs.Line.{packet_at}
use Rattle.commands3.specs.declared.Message.{Message}
use Rattle.packets3.specs.Rehamove3.{rehamove3}
use Rattle.packets3.specs.Writer.{wrote}

pub record Longest : Type 0 where
  pub read : (s out : List ℕ) → (reading rehamove3 s (length out)).answer ≡ 0 → length (packet_at s) ≤ 1200
  -- sixteen points, each byte stuffed
  pub written : (packet : ℕ) (m : Message) (out : List ℕ) → (wrote packet m out).answer ≡ 0 → (wrote packet m out).used ≤ 144
