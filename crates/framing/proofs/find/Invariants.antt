-- `framing::find` meets its contract. The loop's invariant: what the scan finds from here on is what it finds in all. Assumes nothing.
use mathlib.Core.Path.{◌≡◌}
use Prim.Native.Nat.{◌≤◌, ◌-◌}
use lib.ListN.{length, drop}
use Rattle.framing.specs.Scan.{scan}
use Rattle.framing.proofs.find.Given as goal

abbrev pub invariant-loop-at : goal.invariant-loop-at
invariant-loop-at l = (l.at ≤ length l.s) × (scan l.prev l.body l.at (drop l.at l.s) ≡ scan 0 0 0 l.s)

abbrev pub decreases-loop-at : goal.decreases-loop-at
decreases-loop-at l = length l.s - l.at
