-- `charge::net` meets its contract. The loop's invariant: the sum is that of the points passed, and so fits 32 bits. Assumes nothing.
use mathlib.Core.Path.{◌≡◌}
use lib.ListN.{take}
use Rattle.charge.specs.Charge.{net_of}
use Rattle.charge.proofs.net.Given as goal

abbrev pub invariant-loop-p : goal.invariant-loop-p
invariant-loop-p l = l.sum ≡ net_of (take l.p-index l.points)
