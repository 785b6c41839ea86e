-- What was written reads back. Assumes nothing.
use Prim.Native.Nat.{ℕ, ◌+◌, ◌*◌, ◌/◌, ◌%◌}
use mathlib.Core.List.{List, ◌∷◌}
use native.Mathlib.Omega.{arith}
use lib.ListN.{length}
use borrow.Author.Tests.{le-leb}
use Rattle.packets.proofs.ReadsBack.{content_back, written_back}
use Rattle.commands3.specs.Commands.{number_of, data_of, right}
use Rattle.commands3.specs.Contents.{content_of, writable}
use Rattle.commands3.proofs.DataBytes.{length_content}
use Rattle.commands3.proofs.EachCommand.{other_message}
use Rattle.commands3.proofs.Heads.{head_of}
use Rattle.commands3.proofs.RoundTrip.{reads_content}
use Rattle.packets3.specs.Rehamove3.{rehamove3}
use Rattle.packets3.proofs.Lawful.{lawful, length_for}
use Rattle.demands3.specs.RoundTrips.{ReadsBack, OtherReadsBack}
use Rattle.demands3.proofs.Writable.{written_parts}
use Rattle.demands3.proofs.Longest.{length_framed, content_short}

pub reads_back : ReadsBack
unfolding content_of
reads_back packet m sixteen to done g rest out garbage fits =
    let w = written_parts packet m to done in
    let n = packet * 1024 + number_of m.command in
    let content = content_of packet m in
    let some = length_content packet m w.values in
    let back = reads_content packet m w.number w.values sixteen in
    let long = length_for content (omega (arith, content_short packet m w)) in
    let size = le-leb 2 (length content) some.0 in
    let read = written_back rehamove3 lawful (n / 256) (n % 256 ∷ data_of m) long size back.values (writable packet m) to done g rest out garbage fits in
    (rw (back.packet, back.message) at read, w.charge)

pub other_reads_back : OtherReadsBack
unfolding right
other_reads_back packet number d p h other short g rest out garbage fits =
    let n = packet * 1024 + number in
    let content : List ℕ = n / 256 ∷ n % 256 ∷ d in
    let head = head_of packet number d h in
    let long = length_for content (omega (arith, length_framed content)) in
    let size = le-leb 2 (length content) (omega arith) in
    let read = content_back rehamove3 lawful (n / 256) (n % 256 ∷ d) long size (rw (head.1, other)) g rest out garbage fits in
    rw (head.0, head.1, other_message number d other) at read
