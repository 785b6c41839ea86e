-- Checksum and length as the code tests them: by how many bytes there are. Assumes nothing.
use mathlib.Core.Path.{◌≡◌, refl, sym}
use mathlib.Core.Bool.{false, ◌&&◌, and-false}
use mathlib.Core.List.{List}
use Prim.Native.Nat.{ℕ, ◌-◌, ◌<◌}
use native.Mathlib.Omega.{arith}
use lib.Bits.{bit_xor}
use lib.Dec.{eqb}
use lib.ListN.{length, drop, get_or, length-drop, drop_of_length-le, get_or-eq_default}
use Rattle.crc.specs.Crc.{crc, crc8}
use Rattle.packets2.specs.Rehastim2.{check_right, length_right}

module _ (b : List ℕ) where
  pub check_short : length b < 2 → false ≡ check_right b
  unfolding check_right crc
  check_short h = rw (get_or-eq_default b 0 {n = 1} (omega arith), drop_of_length-le b {i = 4} (omega arith)) (sym (and-false (eqb (get_or b 0 0) 129)))

  pub check_empty : length b < 4 → (eqb (get_or b 0 0) 129 && eqb (get_or b 1 0) 85) ≡ check_right b
  unfolding check_right crc
  check_empty h = rw (drop_of_length-le b {i = 4} (omega arith))

  pub check_whole : (eqb (get_or b 0 0) 129 && eqb (get_or b 1 0) (bit_xor (crc8 (drop 4 b)) 85)) ≡ check_right b
  unfolding check_right
  check_whole = refl

  pub length_short : length b < 4 → false ≡ length_right b
  unfolding length_right
  length_short h = rw (get_or-eq_default b 0 {n = 3} (omega arith), drop_of_length-le b {i = 4} (omega arith)) (sym (and-false (eqb (get_or b 2 0) 129)))

  pub length_whole : (eqb (get_or b 2 0) 129 && eqb (get_or b 3 0) (bit_xor (length b - 4) 85)) ≡ length_right b
  unfolding length_right
  length_whole = rw length-drop
