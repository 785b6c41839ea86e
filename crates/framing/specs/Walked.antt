-- What a walk along some bytes comes to.
use Rattle.std.specs.Prelude.{ℕ, ◌<◌, ◌≡◌, List}
use Rattle.framing.specs.declared.Found.{Found}
use Rattle.framing.specs.declared.Walked.{Walked}
use Rattle.framing.specs.declared.Walked.TheVariants.{Finished, Unfinished}
use Rattle.framing.specs.Scan.{scan}

-- what the scan f of all bytes finds is finished among those passed, or the scan goes on with the bytes left, from place at on
abbrev pub Walks : Walked → Found → ℕ → List ℕ → Type 0
Walks (Finished found) f at left = (f ≡ found) × (0 < found.used)
Walks (Unfinished prev body) f at left = f ≡ scan prev body at left
