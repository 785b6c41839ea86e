-- Bytes behind a finished packet do not matter. Assumes nothing.
use Rattle.packets.specs.RoundTrips.{RestUnused}
use Rattle.packets.proofs.RestUnused as any
use Rattle.packets2.specs.Rehastim2.{rehastim2}

pub rest_unused : RestUnused rehastim2
rest_unused = any.rest_unused rehastim2
