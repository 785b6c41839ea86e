-- `encode3::contents::put_points` meets its contract. The loop's invariant: the bytes of the points so far are there. Assumes nothing.
use mathlib.Core.Path.{◌≡◌}
use mathlib.Core.List.{◌++◌}
use lib.ListN.{take}
use Rattle.commands3.specs.Points.{bytes_of}
use Rattle.encode3.proofs.contents.put_points.Given as goal

abbrev pub invariant-loop-p : goal.invariant-loop-p
invariant-loop-p l = l.bytes.items ≡ l.initial.bytes.items ++ bytes_of (take l.p-index l.points)
