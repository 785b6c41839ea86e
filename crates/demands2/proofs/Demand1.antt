-- Demand 1. Assumes nothing.
use Rattle.packets.proofs.Demand1.{reader_keeps, writer_keeps}
use Rattle.commands2.specs.Commands.{good}
use Rattle.packets2.specs.Rehastim2.{rehastim2}
use Rattle.writer2.specs.Writer.{packet_bytes}
use Rattle.demands2.specs.Demand1.{Demand1}

pub demand1 : Demand1
demand1 = record { readers = reader_keeps rehastim2; writers = λ packet c. writer_keeps (good c) (packet_bytes packet c) }
