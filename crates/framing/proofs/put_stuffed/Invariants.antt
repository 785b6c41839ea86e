-- `framing::put_stuffed` meets its contract. The loop's invariant: the bytes left, put from here on, make what is wanted. Assumes nothing.
use mathlib.Core.Path.{◌≡◌}
use Prim.Native.Nat.{◌+◌}
use lib.ListN.{length, drop}
use lib.Seq.{sets}
use Rattle.stuffing.specs.Stuffing.{stuffed}
use Rattle.framing.proofs.put_stuffed.Given as goal

abbrev pub invariant-loop-b : goal.invariant-loop-b
invariant-loop-b l =
    (length l.out ≡ length l.initial.out) × (l.to + length (stuffed (drop l.b-index l.bytes)) ≡ l.at + length (stuffed l.bytes)) × (sets l.out l.to (stuffed (drop l.b-index l.bytes)) ≡ sets l.initial.out l.at (stuffed l.bytes))
