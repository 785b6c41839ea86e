-- What the parts of a content of the RehaMove3 say, by value.
use Rattle.std.specs.Prelude.{ℕ, Bool, cond, List, ℤ, Option, Some, None}
use Rattle.charge.specs.Charge.{charge_of}
use Rattle.commands3.specs.declared.Message.{Message}
use Rattle.commands3.specs.Commands.{message_of, right}
use Rattle.decode3.specs.declared.Decoded.{Decoded}

-- a message with the net charge of its pulse, where its data is right
unfoldable pub told : Bool → ℕ → Message → ℤ → Option Decoded
told good packet m charge = cond good (Some (record { packet = packet; message = m; charge = charge })) None

-- the data of a number
unfoldable pub data_decoded : ℕ → ℕ → List ℕ → Option Decoded
data_decoded packet number d = let m : Message = message_of number d in told (right number d) packet m (charge_of m.pulse)
