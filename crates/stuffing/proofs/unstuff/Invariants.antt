-- `stuffing::unstuff` meets its contract. The loop's invariant: what is known of the bytes passed and the bytes left make what holds of all, and
-- what those left stand for, put from here on, makes what is wanted. Assumes nothing.
use mathlib.Core.Path.{◌≡◌}
use mathlib.Core.Bool.{false, ◌&&◌}
use Prim.Native.Nat.{◌≤◌, ◌+◌}
use lib.ListN.{length, drop}
use Rattle.stuffing.specs.Stuffing.{pairs_good, unstuffed}
use Rattle.slices.specs.Overlay.{overlay}
use Rattle.slices.proofs.Overlay.{from}
use Rattle.stuffing.proofs.unstuff.Given as goal

abbrev pub invariant-loop-b : goal.invariant-loop-b
invariant-loop-b l =
    (l.size ≤ l.b-index) × (length l.out ≡ length l.initial.out) × ((l.good && pairs_good l.after (drop l.b-index l.s)) ≡ pairs_good false l.s)
    × (l.size + length (unstuffed l.after (drop l.b-index l.s)) ≡ length (unstuffed false l.s)) × (from l.size (unstuffed l.after (drop l.b-index l.s)) l.out ≡ overlay (unstuffed false l.s) l.initial.out)
