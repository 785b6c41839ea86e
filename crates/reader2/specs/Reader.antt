-- The reader of one packet of ScienceMode2 (request 12).
use Rattle.std.specs.Prelude.{ℕ, List}
use Rattle.packets.specs.Reader.{Reading, reading}
use Rattle.commands2.specs.declared.Command.{Command}
use Rattle.packets2.specs.Rehastim2.{rehastim2}
use Rattle.reader2.specs.declared.Read.{Read}

abbrev pub as_read : Reading Command → Read
as_read r = record { answer = r.answer; used = r.used; packet = r.packet; command = r.command; size = r.size }

-- the first packet that is finished in the bytes s, for an output of so much room
unfoldable pub read_packet : List ℕ → ℕ → Read
read_packet s room = as_read (reading rehastim2 s room)
