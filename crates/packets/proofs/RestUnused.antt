-- Bytes behind a finished packet do not matter. Assumes nothing.
use mathlib.Core.Path.{◌≡◌, ap}
use mathlib.Core.List.{◌++◌}
use lib.ListN.{length}
use Rattle.framing.specs.declared.Found.{Found}
use Rattle.framing.specs.Scan.{first_found}
use Rattle.packets.specs.Generation.{Generation}
use Rattle.packets.specs.Reader.{Reading}
use Rattle.packets.specs.RoundTrips.{RestUnused}
use Rattle.packets.proofs.Readings.{unfinished, same_read, same_put}
use Rattle.packets.proofs.Behind.{found_still, body_still}

pub rest_unused : {C : Type 0} (g : Generation C) → RestUnused g
rest_unused {C} g s rest out n =
    let some : (first_found s).used ≡ 0 → ⊥ = λ e. n (ap (λ (r : Reading C). r.answer) (unfinished g s (length out) e)) in
    let place = ap (λ (f : Found). f.used) (found_still s rest some) in
    let body = body_still s rest some in
    (same_read g (s ++ rest) s place body (length out), same_put g (s ++ rest) s place body out)
