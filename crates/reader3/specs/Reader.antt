-- What the reader of one packet of the RehaMove3 hands back (request 13): "Report the net charge of a pulse", whatever it is.
use Rattle.std.specs.Prelude.{ℕ, List}
use Rattle.charge.specs.Charge.{charge_of}
use Rattle.packets.specs.Reader.{Reading, reading}
use Rattle.commands3.specs.declared.Message.{Message}
use Rattle.packets3.specs.Rehamove3.{rehamove3}
use Rattle.reader3.specs.declared.Read.{Read}

-- field by field; a message without a pulse has no charge
abbrev pub as_read : Reading Message → Read
as_read r =
    record { answer = r.answer; used = r.used; packet = r.packet; message = r.command; size = r.size; charge = charge_of r.command.pulse }

abbrev pub read_packet : List ℕ → ℕ → Read
read_packet s room = as_read (reading rehamove3 s room)
