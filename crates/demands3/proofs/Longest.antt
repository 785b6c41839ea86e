-- How long packets are that are read and written. Assumes nothing.
use Prim.Native.Nat.{ℕ, ◌+◌, ◌≤◌}
use mathlib.Core.Path.{◌≡◌, ap}
use mathlib.Core.List.{List, [], ◌∷◌}
use native.Mathlib.Omega.{arith}
use lib.ListN.{length, length-append}
use Rattle.stuffing.specs.Stuffing.{stop_byte, stuffed, pairs}
use Rattle.stuffing.proofs.Laws.{length_stuffed_le}
use Rattle.framing.specs.Packet.{body_of, packet_of}
use Rattle.packets.specs.Writer.{framed, wrote_of}
use Rattle.packets.proofs.Readings.{body_in, taken}
use Rattle.packets.proofs.Writings.{used_written}
use Rattle.packets.proofs.Ends.{packet_is}
use Rattle.commands3.specs.declared.Message.{Message}
use Rattle.commands3.specs.Contents.{content_of, writable}
use Rattle.commands3.proofs.DataBytes.{length_content}
use Rattle.packets3.specs.Rehamove3.{header_of, rehamove3}
use Rattle.packets3.specs.Writer.{packet_bytes, wrote}
use Rattle.packets3.proofs.Lawful.{length_most}
use Rattle.demands3.specs.Longest.{Longest}
use Rattle.demands3.proofs.Writable.{Writable, written_parts}

-- ten bytes stand around the stuffed content
pub length_framed : (content : List ℕ) → length (framed rehamove3 content) ≡ length (stuffed content) + 10
unfolding framed packet_of body_of header_of pairs
length_framed content = omega (arith, length-append (stuffed content) (stop_byte ∷ []))

pub content_short : (packet : ℕ) (m : Message) → Writable packet m → length (stuffed (content_of packet m)) ≤ 134
content_short packet m w = omega (arith, length_stuffed_le (content_of packet m), (length_content packet m w.values).1)

written_short : (packet : ℕ) (m : Message) (out : List ℕ) → (wrote packet m out).answer ≡ 0 → (wrote packet m out).used ≤ 144
unfolding wrote_of
written_short packet m out done =
    let p = packet_bytes packet m in
    omega (arith, used_written (writable packet m) p out done, length_framed (content_of packet m), content_short packet m (written_parts packet m out done))

pub longest : Longest
longest =
    record {
      read = λ s out done.
          let t = taken rehamove3 s (length out) done in
          omega (arith, ap length (packet_is s t.0), length-append (body_in s) (stop_byte ∷ []), length_most (body_in s) t.1.long);
      written = written_short;
    }
