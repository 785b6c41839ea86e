-- A packet that was read and is written again is the same, byte for byte. Assumes nothing.
use Prim.Native.Nat.{ℕ, ◌≤◌}
use mathlib.Core.Bool.{Bool, true}
use mathlib.Core.Path.{◌≡◌, sym, ap, ◌∙◌}
use mathlib.Core.List.{List, [], ◌∷◌, ◌++◌}
use lib.ListN.{length, take, drop}
use lib.Seq.{take-append_seam}
use Rattle.stuffing.specs.Stuffing.{start_byte, stop_byte}
use Rattle.framing.specs.Packet.{packet_of}
use Rattle.packets.specs.Generation.{Generation}
use Rattle.packets.specs.Reader.{plain, data_in, covered, reading, data_put}
use Rattle.packets.specs.Writer.{framed, written_of}
use Rattle.packets.specs.Laws.{Lawful}
use Rattle.packets.specs.Line.{packet_at}
use Rattle.packets.proofs.Readings.{body_in, put_over, taken, read_found, put_found}
use Rattle.packets.proofs.Writings.{answers_0, bytes_written}
use Rattle.packets.proofs.Ends.{packet_is}

-- what the first finished packet stands for
abbrev pub content_in : {C : Type 0} → Generation C → List ℕ → List ℕ
content_in g s = plain (covered g (body_in s))

module _ {C : Type 0} (g : Generation C) (laws : Lawful g) (s out : List ℕ) (done : (reading g s (length out)).answer ≡ 0) where
  pub framed_is : framed g (content_in g s) ≡ packet_at s
  unfolding framed packet_of
  framed_is =
      let t = taken g s (length out) done in
      ap (λ (b : List ℕ). start_byte ∷ b ++ stop_byte ∷ []) (laws.made_again (body_in s) t.1.check t.1.long t.1.pairs)
      ∙ sym (packet_is s t.0)

  -- from what was read and from the data put out, where these give the content back
  pub bytes_again : (content_of : ℕ → C → List ℕ → List ℕ)
      → content_of (g.packet_in (content_in g s)) (g.command_in (content_in g s)) (drop 2 (content_in g s)) ≡ content_in g s
      → framed g (content_of (reading g s (length out)).packet (reading g s (length out)).command (take (reading g s (length out)).size (data_put g s out)))
      ≡ packet_at s
  bytes_again content_of same =
      let t = taken g s (length out) done in
      let d = data_in (covered g (body_in s)) in
      rw (read_found g s out t.0 t.1, put_found g s out t.0 t.1, take-append_seam d (drop (length d) out)) (ap (framed g) same ∙ framed_is)

  -- by the writer
  pub written_again : (good : Bool) (content : List ℕ) → good ≡ true → content ≡ content_in g s → (to : List ℕ) → length (packet_at s) ≤ length to
      → written_of good (framed g content) to ≡ put_over (packet_at s) to
  written_again good content e same to fits =
      let p = ap (framed g) same ∙ framed_is in
      bytes_written good (framed g content) to (answers_0 good (framed g content) to e (rw p fits)) ∙ ap (λ (x : List ℕ). put_over x to) p
