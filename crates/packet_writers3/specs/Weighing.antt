-- What is handed back of a pulse's weight: 4 for a pulse that is not good, of which no charge is told.
use Rattle.std.specs.Prelude.{ℤ, pos, Option, Some, None}
use Rattle.packet_writers3.specs.declared.net_charge.Weighed.{Weighed}

abbrev pub weighed_as : Option ℤ → Weighed
weighed_as (Some charge) = record { charge = charge; answer = 0 }
weighed_as None = record { charge = pos 0; answer = 4 }
