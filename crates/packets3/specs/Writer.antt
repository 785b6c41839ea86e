-- The writer of packets of the RehaMove3 (request 13): no pulse is written whose net charge is not zero.
use Rattle.std.specs.Prelude.{ℕ, List}
use Rattle.commands.specs.declared.Wrote.{Wrote}
use Rattle.packets.specs.Writer.{framed, wrote_of, written_of}
use Rattle.commands3.specs.declared.Message.{Message}
use Rattle.commands3.specs.Contents.{content_of, writable}
use Rattle.packets3.specs.Rehamove3.{rehamove3}

abbrev pub packet_bytes : ℕ → Message → List ℕ
packet_bytes packet m = framed rehamove3 (content_of packet m)

abbrev pub wrote : ℕ → Message → List ℕ → Wrote
wrote packet m out = wrote_of (writable packet m) (packet_bytes packet m) out

abbrev pub written : ℕ → Message → List ℕ → List ℕ
written packet m out = written_of (writable packet m) (packet_bytes packet m) out
