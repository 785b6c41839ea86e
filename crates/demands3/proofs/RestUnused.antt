-- Bytes behind a finished packet do not matter. Assumes nothing.
use Rattle.packets.specs.RoundTrips.{RestUnused}
use Rattle.packets.proofs.RestUnused as any
use Rattle.packets3.specs.Rehamove3.{rehamove3}

pub rest_unused : RestUnused rehamove3
rest_unused = any.rest_unused rehamove3
