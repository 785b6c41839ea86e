-- The checksum of bytes as they will be stuffed, byte by byte. Assumes nothing.
use mathlib.Core.Path.{◌≡◌, sym, ap, ◌∙◌}
use mathlib.Core.Bool.{true, false}
use mathlib.Core.List.{List}
use Prim.Native.Nat.{ℕ, ◌+◌, ◌≤◌, ◌<◌}
use lib.Bits.{bit_xor}
use lib.ListN.{length, drop, get_or}
use Rattle.crc.specs.Crc.{crc, byte_step}
use Rattle.crc.proofs.Laws.{crc_append}
use Rattle.stuffing.specs.Stuffing.{special, stuffed_byte, stuffed}
use Rattle.stuffing.proofs.Laws.{stuffed_special, stuffed_plain, turn, end, stuffed_nil, stuffed_cons}

module _ (k poly r b : ℕ) where
  pub step_special : special b ≡ true → byte_step k poly (byte_step k poly r 129) (bit_xor b 85) ≡ crc k poly r (stuffed_byte b)
  unfolding crc
  step_special e = sym (ap (crc k poly r) (stuffed_special b e))

  pub step_plain : special b ≡ false → byte_step k poly r b ≡ crc k poly r (stuffed_byte b)
  unfolding crc
  step_plain e = sym (ap (crc k poly r) (stuffed_plain b e))

module _ (k poly r : ℕ) (s : List ℕ) (i : ℕ) where
  pub check_turn : i < length s → crc k poly r (stuffed (drop i s)) ≡ crc k poly (crc k poly r (stuffed_byte (get_or s i 0))) (stuffed (drop (i + 1) s))
  check_turn h =
      ap (crc k poly r) (turn stuffed_byte stuffed stuffed_nil stuffed_cons s i h) ∙ crc_append k poly r (stuffed_byte (get_or s i 0)) (stuffed (drop (i + 1) s))

  pub check_end : length s ≤ i → crc k poly r (stuffed (drop i s)) ≡ r
  unfolding crc
  check_end h = ap (crc k poly r) (end stuffed_byte stuffed stuffed_nil stuffed_cons s i h)
