-- The check values by which tables of such checks name these two: what the ASCII bytes 123456789 leave, F4 and 31C3. Assumes nothing.
use mathlib.Core.Path.{◌≡◌, refl}
use mathlib.Core.List.{List, [], ◌∷◌}
use Prim.Native.Nat.{ℕ}
use Rattle.crc.specs.Crc.{bit_step, bit_steps, byte_step, crc, crc8, crc16}

digits : List ℕ
digits = 49 ∷ 50 ∷ 51 ∷ 52 ∷ 53 ∷ 54 ∷ 55 ∷ 56 ∷ 57 ∷ []

check_value8 : crc8 digits ≡ 244
unfolding digits bit_step bit_steps byte_step crc
check_value8 = refl

check_value16 : crc16 digits ≡ 12739
unfolding digits bit_step bit_steps byte_step crc
check_value16 = refl
