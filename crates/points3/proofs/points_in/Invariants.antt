-- `points3::points_in` meets its contract. The loop's invariant: so many points are read and weighed, and are right. Assumes nothing.
use mathlib.Core.Path.{◌≡◌}
use mathlib.Core.Bool.{true}
use Rattle.commands3.specs.Points.{points_in}
use Rattle.points3.specs.Pulses.{points_right, parts_of}
use Rattle.points3.proofs.points_in.Given as goal

abbrev pub invariant-loop-i : goal.invariant-loop-i
invariant-loop-i l =
    (l.points ≡ points_in 16 l.i l.d) × (points_right l.i l.d ≡ true) × (l.charge ≡ parts_of l.i l.d)
