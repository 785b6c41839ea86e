-- Demand 1 on packets of ScienceMode2.
use Rattle.std.specs.Prelude.{ℕ, List}
use Rattle.packets.specs.Demand1.{ReaderKeeps, WriterKeeps}
use Rattle.commands2.specs.declared.Command.{Command}
use Rattle.commands2.specs.Commands.{good}
use Rattle.packets2.specs.Rehastim2.{rehastim2}
use Rattle.writer2.specs.Writer.{packet_bytes}

pub record Demand1 : Type 0 where
  pub readers : (s out : List ℕ) → ReaderKeeps rehastim2 s out
  -- a command under a packet number
  pub writers : (packet : ℕ) (c : Command) (out : List ℕ) → WriterKeeps (good c) (packet_bytes packet c) out
