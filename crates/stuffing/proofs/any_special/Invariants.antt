-- `stuffing::any_special` meets its contract. The loop's invariant: one of the bytes passed, or of those left, is one of all.
-- Assumes nothing.
use mathlib.Core.Path.{◌≡◌}
use mathlib.Core.Bool.{◌||◌}
use Prim.Native.Nat.{◌≤◌}
use lib.Dec.{ltb}
use lib.ListN.{drop}
use Rattle.stuffing.specs.Stuffing.{any_special}
use Rattle.stuffing.proofs.any_special.Given as goal

abbrev pub invariant-loop-b : goal.invariant-loop-b
invariant-loop-b l = (l.flags ≤ 1) × ((ltb 0 l.flags || any_special (drop l.b-index l.bytes)) ≡ any_special l.bytes)
