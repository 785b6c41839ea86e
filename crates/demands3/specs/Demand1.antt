-- Demand 1 on packets of the RehaMove3.
use Rattle.std.specs.Prelude.{ℕ, List}
use Rattle.packets.specs.Demand1.{ReaderKeeps, WriterKeeps}
use Rattle.commands3.specs.declared.Message.{Message}
use Rattle.commands3.specs.Contents.{writable}
use Rattle.packets3.specs.Rehamove3.{rehamove3}
use Rattle.packets3.specs.Writer.{packet_bytes}

pub record Demand1 : Type 0 where
  pub readers : (s out : List ℕ) → ReaderKeeps rehamove3 s out
  -- a message under a packet number
  pub writers : (packet : ℕ) (m : Message) (out : List ℕ) → WriterKeeps (writable packet m) (packet_bytes packet m) out
