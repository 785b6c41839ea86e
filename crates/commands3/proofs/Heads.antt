-- The two bytes in front of a content: packet number and command number, there and back. Assumes nothing.
use Prim.Native.Nat.{ℕ, ◌+◌, ◌*◌, ◌/◌, ◌%◌, ◌≤◌, ◌<◌}
use mathlib.Core.Path.{◌≡◌}
use mathlib.Core.List.{List, ◌++◌}
use native.Mathlib.Omega.{arith}
use lib.ListN.{length, get_or, drop}
use Rattle.commands3.specs.Contents.{two, head_in, packet_in}
use Rattle.commands3.proofs.Fronts.{front_again}

-- THEOREM. Both numbers are read from their bytes.
pub head_of : (packet number : ℕ) (d : List ℕ) → number < 1024
    → (packet_in (two (packet * 1024 + number) ++ d) ≡ packet) × (head_in (two (packet * 1024 + number) ++ d) % 1024 ≡ number)
head_of packet number d h = (omega arith, omega arith)

module _ (content : List ℕ) (byte : (i : ℕ) → get_or content i 0 < 256) where
  -- THEOREM. Their bytes are written again from both numbers.
  pub head_again : 2 ≤ length content → two (packet_in content * 1024 + head_in content % 1024) ++ drop 2 content ≡ content
  head_again h =
      let n = packet_in content * 1024 + head_in content % 1024 in
      let high : n / 256 ≡ get_or content 0 0 = omega (arith, byte 1) in
      let low : n % 256 ≡ get_or content 1 0 = omega (arith, byte 1) in
      rw (high, low) (front_again content 2 h)

  -- THEOREM. A packet number of bytes is at most 63.
  pub packet_le : packet_in content ≤ 63
  packet_le = omega (arith, byte 0, byte 1)
