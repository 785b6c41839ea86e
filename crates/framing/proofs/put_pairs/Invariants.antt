-- `framing::put_pairs` meets its contract. The loop's invariant: the bytes left, put from here on, make what is wanted. Assumes nothing.
use mathlib.Core.Path.{◌≡◌}
use Prim.Native.Nat.{◌+◌}
use lib.ListN.{length, drop}
use lib.Seq.{sets}
use Rattle.stuffing.specs.Stuffing.{pairs}
use Rattle.framing.proofs.put_pairs.Given as goal

abbrev pub invariant-loop-b : goal.invariant-loop-b
invariant-loop-b l =
    (length l.out ≡ length l.initial.out) × (l.to + length (pairs (drop l.b-index l.bytes)) ≡ l.at + length (pairs l.bytes)) × (sets l.out l.to (pairs (drop l.b-index l.bytes)) ≡ sets l.initial.out l.at (pairs l.bytes))
