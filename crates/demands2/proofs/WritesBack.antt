-- A packet that was read and is written again is the same, byte for byte. Assumes nothing.
use Prim.Native.Nat.{ℕ, ◌≤◌}
use mathlib.Core.Path.{◌≡◌, refl}
use mathlib.Core.List.{List, [], ◌∷◌}
use native.Mathlib.Omega.{arith}
use lib.ListN.{length, get_or, drop}
use Rattle.framing.specs.Scan.{first_found}
use Rattle.packets.proofs.Readings.{taken, read_found}
use Rattle.packets.proofs.Bytes.{data_bytes}
use Rattle.packets.proofs.WritesBack.{content_in, bytes_again, written_again}
use Rattle.commands2.specs.declared.Command.{Command}
use Rattle.commands2.specs.Commands.{number_of, good}
use Rattle.commands2.proofs.RoundTrip.{number_of_lem, writes_data}
use Rattle.packets2.specs.Rehastim2.{command_in, rehastim2}
use Rattle.packets2.proofs.Lawful.{lawful, size_range}
use Rattle.writer2.specs.Writer.{content_of}
use Rattle.demands2.specs.RoundTrips.{EachWritesBack}

two_first : (l : List ℕ) → 2 ≤ length l → get_or l 0 0 ∷ get_or l 1 0 ∷ drop 2 l ≡ l
two_first [] h = absurd (omega arith)
two_first (a ∷ []) h = absurd (omega arith)
two_first (a ∷ b ∷ l) h = refl

pub each_writes_back : EachWritesBack
each_writes_back s out bytes done =
    let t = taken rehastim2 s (length out) done in
    let l = content_in rehastim2 s in
    let d = drop 2 l in
    let same : get_or l 0 0 ∷ number_of (command_in l) ∷ d ≡ l = rw (number_of_lem (get_or l 1 0) d) (two_first l (size_range (length l) t.1.size).0) in
    record {
      bytes = bytes_again rehastim2 lawful s out done (λ (packet : ℕ) (c : Command) (x : List ℕ). packet ∷ number_of c ∷ x) same;
      again = rw (read_found rehastim2 s out t.0 t.1) (λ carried.
          let w = writes_data (get_or l 1 0) d (data_bytes rehastim2 s (first_found s) bytes) carried t.1.values in
          written_again rehastim2 lawful s out done (good (command_in l)) (content_of (get_or l 0 0) (command_in l)) w.0 (rw w.1 same));
    }
