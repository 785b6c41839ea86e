-- Demand 1. Assumes nothing.
use Rattle.packets.proofs.Demand1.{reader_keeps, writer_keeps}
use Rattle.commands3.specs.Contents.{writable}
use Rattle.packets3.specs.Rehamove3.{rehamove3}
use Rattle.packets3.specs.Writer.{packet_bytes}
use Rattle.demands3.specs.Demand1.{Demand1}

pub demand1 : Demand1
demand1 = record { readers = reader_keeps rehamove3; writers = λ packet m. writer_keeps (writable packet m) (packet_bytes packet m) }
