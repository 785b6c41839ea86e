-- A packet of any content reads back. Assumes nothing.
use Prim.Native.Nat.{ℕ, ◌+◌, ◌≤◌}
use mathlib.Core.Bool.{Bool, true}
use mathlib.Core.Path.{◌≡◌, ap, ap₂, ◌∙◌}
use mathlib.Core.List.{List, ◌∷◌, ◌++◌, append_assoc}
use native.Mathlib.Omega.{arith}
use lib.ListN.{length, drop}
use Rattle.framing.specs.declared.Found.{Found}
use Rattle.framing.specs.Scan.{first_found, body_at}
use Rattle.framing.proofs.ReadOn.{packet_found}
use Rattle.framing.proofs.Resync.{body_after}
use Rattle.packets.specs.Generation.{Generation}
use Rattle.packets.specs.Reader.{data_in, covered, found}
use Rattle.packets.specs.Writer.{framed, wrote_of, written_of}
use Rattle.packets.specs.Laws.{body_for, Lawful}
use Rattle.packets.specs.Line.{Garbage}
use Rattle.packets.specs.RoundTrips.{ReadBack}
use Rattle.packets.proofs.Readings.{Passed, body_in, put_over, read_found, put_found}
use Rattle.packets.proofs.Writings.{used_written, bytes_written}
use Rattle.packets.proofs.Behind.{long_alone, found_there}
use Rattle.packets.proofs.Content.{plain_for, passes_for}
use Rattle.packets.proofs.Row.{framed_alone}

-- of right length, size and values
module _ {C : Type 0} (g : Generation C) (laws : Lawful g) (b : ℕ) (l : List ℕ) (long : g.length_right (body_for g (b ∷ l)) ≡ true)
    (size : g.size_good (length (b ∷ l)) ≡ true) (values : g.right (b ∷ l) ≡ true) where
  abbrev content : List ℕ
  content = b ∷ l

  abbrev p : List ℕ
  p = framed g content

  -- behind garbage and before any bytes
  module _ (front rest out : List ℕ) (garbage : Garbage front) where
    abbrev line : List ℕ
    line = front ++ (p ++ rest)

    abbrev used : ℕ
    used = length front + length p

    there : first_found line ≡ packet_found (length front + 1) used
    there = found_there front p rest garbage (framed_alone g b l)

    body : body_in line ≡ body_for g content
    unfolding framed
    body = ap (body_at line) there ∙ body_after front (g.header_of content) content rest

    pub content_back : length (drop 2 content) ≤ length out → ReadBack g line used (g.packet_in content) (g.command_in content) (drop 2 content) out
    content_back fits =
        let passed : Passed g (body_in line) (length out) = rw body (passes_for g laws content (length out) long size values fits) in
        let used-there : (first_found line).used ≡ used = ap (λ (f : Found). f.used) there in
        let some : (first_found line).used ≡ 0 → ⊥ = λ z. omega (arith, long_alone p (framed_alone g b l)) in
        record {
          same = read_found g line out some passed ∙ ap₂ (found g) (ap (covered g) body) used-there ∙ rw (plain_for g laws content);
          put = put_found g line out some passed ∙ ap (λ (x : List ℕ). put_over (data_in (covered g x)) out) body ∙ rw (plain_for g laws content);
        }

  -- and as the writer leaves it
  pub written_back : (good : Bool) (to : List ℕ) → (wrote_of good p to).answer ≡ 0 → (front rest out : List ℕ) → Garbage front
      → length (drop 2 content) ≤ length out
      → ReadBack g (front ++ (written_of good p to ++ rest)) (length front + (wrote_of good p to).used) (g.packet_in content) (g.command_in content)
      (drop 2 content) out
  unfolding wrote_of
  written_back good to done front rest out garbage fits =
      rw (bytes_written good p to done, used_written good p to done, append_assoc p (drop (length p) to) rest)
      (content_back front (drop (length p) to ++ rest) out garbage fits)
