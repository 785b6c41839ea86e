-- `packets::sum_stuffed`: the check of the bytes left, from here on, is the check of all; and so with their size. Assumes nothing.
use mathlib.Core.Path.{◌≡◌}
use Prim.Native.Nat.{◌≤◌, ◌-◌, ◌+◌}
use lib.ListN.{length, drop}
use Rattle.crc.specs.Crc.{crc}
use Rattle.stuffing.specs.Stuffing.{stuffed}
use Rattle.packets.proofs.sum_stuffed.Given as goal

abbrev pub invariant-loop-byte : goal.invariant-loop-byte
invariant-loop-byte g l =
    let m = g.R.Remainder in
    (crc m.top m.polynomial (m.number l.check) (stuffed (drop l.byte-index l.bytes)) ≡ crc m.top m.polynomial 0 (stuffed l.bytes)) × (l.size ≤ length l.bytes + l.byte-index)
    × (l.size + length (stuffed (drop l.byte-index l.bytes)) ≡ length (stuffed l.bytes) + (length l.bytes - l.byte-index))
