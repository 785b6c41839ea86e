-- The writer of packets of ScienceMode2 (request 12).
use Rattle.std.specs.Prelude.{ℕ, List, ◌∷◌}
use Rattle.commands.specs.declared.Wrote.{Wrote}
use Rattle.packets.specs.Writer.{framed, wrote_of, written_of}
use Rattle.commands2.specs.declared.Command.{Command}
use Rattle.commands2.specs.Commands.{number_of, data_of, good}
use Rattle.packets2.specs.Rehastim2.{rehastim2}

abbrev pub content_of : ℕ → Command → List ℕ
content_of packet c = packet ∷ number_of c ∷ data_of c

abbrev pub packet_bytes : ℕ → Command → List ℕ
packet_bytes packet c = framed rehastim2 (content_of packet c)

abbrev pub wrote : ℕ → Command → List ℕ → Wrote
wrote packet c out = wrote_of (good c) (packet_bytes packet c) out

abbrev pub written : ℕ → Command → List ℕ → List ℕ
written packet c out = written_of (good c) (packet_bytes packet c) out
