-- Packets in a row. Assumes nothing.
use Prim.Native.Nat.{◌+◌, ◌*◌, ◌/◌, ◌%◌}
use mathlib.Core.List.{◌∷◌}
use Rattle.packets.specs.Row.{Resynchronises}
use Rattle.packets.proofs.Row as any
use Rattle.commands3.specs.Commands.{number_of, data_of}
use Rattle.commands3.specs.Contents.{content_of}
use Rattle.packets3.specs.Rehamove3.{rehamove3}
use Rattle.packets3.proofs.Lawful.{lawful}
use Rattle.demands3.specs.RoundTrips.{WrittenAlone}

pub resynchronises : Resynchronises rehamove3
resynchronises = any.resynchronises rehamove3 lawful

pub written_alone : WrittenAlone
unfolding content_of
written_alone packet m =
    let n = packet * 1024 + number_of m.command in any.framed_alone rehamove3 (n / 256) (n % 256 ∷ data_of m)
