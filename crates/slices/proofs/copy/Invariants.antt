-- `slices::copy` meets its contract. The loop's invariant: the bytes left, put from here on, make what is wanted. Assumes nothing.
use mathlib.Core.Path.{◌≡◌}
use lib.ListN.{length, drop}
use Rattle.slices.specs.Overlay.{overlay}
use Rattle.slices.proofs.Overlay.{from}
use Rattle.slices.proofs.copy.Given as goal

abbrev pub invariant-loop-i : goal.invariant-loop-i
invariant-loop-i l = (length l.out ≡ length l.initial.out) × (from l.i (drop l.i l.bytes) l.out ≡ overlay l.bytes l.initial.out)
