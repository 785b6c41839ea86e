-- Packets in a row. Assumes nothing.
use mathlib.Core.List.{◌∷◌}
use Rattle.packets.specs.Row.{Resynchronises}
use Rattle.packets.proofs.Row as any
use Rattle.commands2.specs.Commands.{number_of, data_of}
use Rattle.packets2.specs.Rehastim2.{rehastim2}
use Rattle.packets2.proofs.Lawful.{lawful}
use Rattle.demands2.specs.RoundTrips.{WrittenAlone}

pub resynchronises : Resynchronises rehastim2
resynchronises = any.resynchronises rehastim2 lawful

pub written_alone : WrittenAlone
written_alone packet c = any.framed_alone rehastim2 packet (number_of c ∷ data_of c)
