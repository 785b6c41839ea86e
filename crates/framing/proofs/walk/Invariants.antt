-- `framing::walk` meets its contract. The loop's invariant: what the scan finds from here on is what it finds from the start on. Assumes nothing.
use mathlib.Core.Path.{◌≡◌}
use lib.ListN.{drop}
use Rattle.framing.specs.Scan.{scan}
use Rattle.framing.proofs.walk.Given as goal

abbrev pub invariant-loop-at : goal.invariant-loop-at
invariant-loop-at l = scan l.prev l.body l.at (drop l.at l.s) ≡ scan l.last l.start l.from (drop l.from l.s)
