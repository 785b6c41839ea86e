-- `stuffing::stuffed_size` meets its contract. The loop's invariant: n and what the bytes left become make the whole. Assumes nothing.
use mathlib.Core.Path.{◌≡◌}
use Prim.Native.Nat.{◌≤◌, ◌+◌}
use lib.ListN.{length, drop}
use Rattle.stuffing.specs.Stuffing.{stuffed}
use Rattle.stuffing.proofs.stuffed_size.Given as goal

abbrev pub invariant-loop-b : goal.invariant-loop-b
invariant-loop-b l = (l.n ≤ l.b-index + l.b-index) × (l.n + length (stuffed (drop l.b-index l.bytes)) ≡ length (stuffed l.bytes))
