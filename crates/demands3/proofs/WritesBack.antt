-- A packet that was read gives its bytes again, and is written again where it has no net charge. Assumes nothing.
use Prim.Native.Nat.{ℕ, ◌+◌, ◌*◌, ◌%◌}
use mathlib.Core.Path.{◌≡◌}
use mathlib.Core.List.{List, ◌++◌}
use lib.ListN.{length, drop}
use borrow.Author.Tests.{leb-true}
use Rattle.framing.specs.Scan.{first_found}
use Rattle.packets.specs.Reader.{reading}
use Rattle.packets.proofs.Readings.{taken, read_found}
use Rattle.packets.proofs.Bytes.{content_bytes}
use Rattle.packets.proofs.WritesBack.{content_in, bytes_again, written_again}
use Rattle.commands3.specs.declared.Message.{Message}
use Rattle.commands3.specs.Commands.{number_of}
use Rattle.commands3.specs.Contents.{two, content_of, writable, head_in, packet_in, message_in}
use Rattle.commands3.proofs.EachCommand.{number_of_lem}
use Rattle.commands3.proofs.Heads.{head_again, packet_le}
use Rattle.commands3.proofs.RoundTrip.{writes_content}
use Rattle.packets3.specs.Rehamove3.{rehamove3}
use Rattle.packets3.proofs.Lawful.{lawful}
use Rattle.demands3.specs.RoundTrips.{EachWritesBack}
use Rattle.demands3.proofs.Writable.{parts_writable, lacking_refused}

-- a content by what was read and the data put out
abbrev content_with : ℕ → Message → List ℕ → List ℕ
content_with packet m d = two (packet * 1024 + number_of m.command) ++ d

pub each_writes_back : EachWritesBack
each_writes_back s out bytes done =
    let t = taken rehamove3 s (length out) done in
    let r = reading rehamove3 s (length out) in
    let l = content_in rehamove3 s in
    let byte = content_bytes rehamove3 s (first_found s) bytes in
    let size = t.1.size in
    let same : content_with (packet_in l) (message_in l) (drop 2 l) ≡ l =
    rw (number_of_lem (head_in l % 1024) (drop 2 l)) (head_again l byte (leb-true 2 (length l) size)) in
    record {
      bytes = bytes_again rehamove3 lawful s out done content_with same;
      again = rw (read_found rehamove3 s out t.0 t.1) (λ carried zero.
          let w = writes_content l byte size t.1.values carried in
          let good = parts_writable (packet_in l) (message_in l) (record { number = packet_le l byte; values = w.0; charge = zero }) in
          written_again rehamove3 lawful s out done (writable (packet_in l) (message_in l)) (content_of (packet_in l) (message_in l)) good w.1);
      refuses = λ n to. lacking_refused r.packet r.command to (λ w. n w.charge);
    }
