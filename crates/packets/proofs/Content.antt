-- The body that the writer makes of a content passes the reader's tests and stands for that content; its packet stands for no other.
-- Assumes nothing.
use Prim.Native.Nat.{ℕ, ◌-◌, ◌≤◌}
use mathlib.Core.Bool.{true}
use mathlib.Core.Path.{◌≡◌, sym, ap, ◌∙◌}
use mathlib.Core.List.{List, [], ◌∷◌}
use native.Mathlib.Omega.{arith}
use lib.ListN.{length, take, drop, length-append}
use lib.Seq.{take-append_seam}
use Rattle.stuffing.specs.Stuffing.{stop_byte}
use Rattle.stuffing.proofs.RoundTrip.{unstuffed_stuffed, stuffed_good}
use Rattle.framing.specs.Packet.{packet_of}
use Rattle.packets.specs.Generation.{Generation}
use Rattle.packets.specs.Reader.{plain, covered}
use Rattle.packets.specs.Writer.{framed}
use Rattle.packets.specs.Laws.{body_for, Lawful}
use Rattle.packets.proofs.Readings.{Passed}

-- the bytes between the first and the last
abbrev inside : List ℕ → List ℕ
inside p = take (length p - 2) (drop 1 p)

module _ {C : Type 0} (g : Generation C) (laws : Lawful g) where
  pub plain_for : (content : List ℕ) → plain (covered g (body_for g content)) ≡ content
  plain_for content = ap plain (laws.covered_for content) ∙ unstuffed_stuffed content

  pub passes_for : (content : List ℕ) (room : ℕ) → g.length_right (body_for g content) ≡ true → g.size_good (length content) ≡ true
      → g.right content ≡ true → length (drop 2 content) ≤ room → Passed g (body_for g content) room
  passes_for content room long size values fits =
      record {
        check = laws.check_for content;
        long = long;
        pairs = rw (laws.covered_for content) (stuffed_good content);
        size = rw (plain_for content) size;
        values = rw (plain_for content) values;
        fits = rw (plain_for content) fits;
      }

  inside_framed : (content : List ℕ) → inside (framed g content) ≡ body_for g content
  unfolding framed packet_of
  inside_framed content =
      let body = body_for g content in
      let size : length (framed g content) - 2 ≡ length body = omega (arith, length-append body (stop_byte ∷ [])) in
      rw size (take-append_seam body (stop_byte ∷ []))

  pub framed_one : (a b : List ℕ) → framed g a ≡ framed g b → a ≡ b
  framed_one a b e =
      sym (plain_for a) ∙ ap (λ (p : List ℕ). plain (covered g p)) (sym (inside_framed a) ∙ ap inside e ∙ inside_framed b) ∙ plain_for b
