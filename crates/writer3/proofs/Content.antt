-- A content by value, and the packet that it makes. Assumes nothing.
use mathlib.Core.Path.{◌≡◌, refl, sym, ap}
use mathlib.Core.Bool.{Bool, true, false, cond}
use mathlib.Core.List.{List}
use Prim.Native.Nat.{ℕ, ◌≤◌, ◌<◌}
use native.Mathlib.Omega.{arith}
use lib.ListN.{length}
use Rattle.std.specs.Prelude.{None, Some}
use Rattle.std.proofs.lemmas.Option.{none-some}
use Rattle.stuffing.specs.Stuffing.{stuffed}
use Rattle.stuffing.proofs.Laws.{length_stuffed_le}
use Rattle.framing.specs.Packet.{packet_of}
use Rattle.framing.proofs.Writing.{length_packet}
use Rattle.commands3.specs.declared.Message.{Message}
use Rattle.commands3.specs.Contents.{content_of, writable}
use Rattle.commands3.proofs.DataBytes.{length_content}
use Rattle.encode3.specs.Encoded.{encoded}
use Rattle.encode3.proofs.Writable.{writable_parts}
use Rattle.packets3.specs.Rehamove3.{header_of}

pub length_fits : (content : List ℕ) → length content ≤ 67 → length (stuffed content) ≤ 134
length_fits content h = omega (arith, length_stuffed_le content)

-- at most 1 + 8 + 134 + 1 bytes
pub packet_small : (content : List ℕ) → length content ≤ 67 → length (packet_of (header_of content) content) < 256
unfolding header_of
packet_small content h = omega (arith, length_packet (header_of content) content, length_fits content h)

-- what a message makes, or nothing
module _ (packet : ℕ) (m : Message) where
  pub not_made : None ≡ encoded packet m → writable packet m ≡ false
  unfolding encoded
  not_made = by (writable packet m)
    where
      by : (t : Bool) → None ≡ cond t (Some (content_of packet m)) None → t ≡ false
      by true e = absurd (none-some (content_of packet m) e)
      by false e = refl

  module _ (content : List ℕ) (made : Some content ≡ encoded packet m) where
    made_of : (writable packet m ≡ true) × (content ≡ content_of packet m)
    unfolding encoded
    made_of = by (writable packet m) refl made
      where
        by : (t : Bool) → writable packet m ≡ t → Some content ≡ cond t (Some (content_of packet m)) None → (writable packet m ≡ true) × (content ≡ content_of packet m)
        by true w e = (w, cc)
        by false w e = absurd (none-some content (sym e))

    pub good : writable packet m ≡ true
    good = made_of.0

    pub whole : content ≡ content_of packet m
    whole = made_of.1

    pub short : length content ≤ 67
    short = omega (arith, ap length whole, (length_content packet m (writable_parts packet m good).1).1)
