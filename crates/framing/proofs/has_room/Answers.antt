-- `framing::has_room` meets its contract. Assumes nothing.
use native.Mathlib.Omega.{arith}
use Prim.Native.Nat.{suc, ◌-◌, ◌*◌, ◌/◌}
use lib.ListN.{length}
use Rattle.framing.specs.Packet.{packet_of}
use Rattle.framing.proofs.Writing.{length_packet, leb_same}
use Rattle.framing.proofs.has_room.Goals as goal

pub returns-else-h-room : goal.returns-else-h-room
returns-else-h-room c =
    let a = c.args in
    let e = length_packet a.header.now a.content.now in
    leb_same (suc (length a.header.now)) (a.room / 2) (length (packet_of a.header.now a.content.now)) a.room (λ h. omega arith) (λ h. omega arith)

pub returns-then-h-room : goal.returns-then-h-room
returns-then-h-room c =
    let a = c.args in
    let e = length_packet a.header.now a.content.now in
    leb_same c.stuffed_size.result (a.room - 2 * length a.header.now - 2) (length (packet_of a.header.now a.content.now)) a.room (λ h. omega (arith, c.stuffed_size.ensures)) (λ h. omega (arith, c.stuffed_size.ensures))
