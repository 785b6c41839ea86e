-- The check sum's start value is 0 and no other: zeros leave 0 of no remainder but 0, and the first example has a check sum of 0 over zeros.
-- Assumes nothing.
use Prim.Native.Nat.{ℕ, zero, suc, ◌*◌, ◌/◌, ◌%◌, ◌<◌}
use mathlib.Core.Path.{◌≡◌, refl, sym, ap, ◌∙◌}
use mathlib.Core.List.{List}
use native.Mathlib.Omega.{arith}
use lib.Bits.{bit_xor, xor_lt, xor_self, xor_zero_r}
use lib.Dec.{lit<}
use lib.ListN.{get_or, replicate}
use Rattle.crc.specs.Crc.{bit_step, bit_steps, byte_step, crc}
use Rattle.crc.proofs.Xor.{xor_assoc}
use Rattle.crc.proofs.Laws.{byte_lt16}
use Rattle.demands3.specs.StartValue.{StartValue}

xor_zero : (a b : ℕ) → bit_xor a b ≡ 0 → b ≡ a
xor_zero a b e = ap (λ (n : ℕ). bit_xor n b) (sym (xor_self a)) ∙ xor_assoc a a b ∙ ap (bit_xor a) e ∙ xor_zero_r a

-- the polynomial is odd
odd_bit : (u n : ℕ) → u < 2 → u * 0x1021 ≡ n * 2 → u ≡ 0
odd_bit zero n h e = refl
odd_bit (suc zero) n h e = absurd (omega arith)
odd_bit (suc (suc u)) n h e = absurd (omega arith)

step_lt : (r : ℕ) → r < 65536 → bit_step 15 0x1021 r < 65536
unfolding bit_step
step_lt r h = xor_lt 16 (r % 32768 * 2) (r / 32768 * 0x1021) (omega arith) (omega arith)

step_zero : (r : ℕ) → r < 65536 → bit_step 15 0x1021 r ≡ 0 → r ≡ 0
unfolding bit_step
step_zero r h e =
    let same = xor_zero (r % 32768 * 2) (r / 32768 * 0x1021) e in
    omega (arith, odd_bit (r / 32768) (r % 32768) (omega arith) same)

steps_zero : (n r : ℕ) → r < 65536 → bit_steps n 15 0x1021 r ≡ 0 → r ≡ 0
unfolding bit_steps
steps_zero zero r h e = e
steps_zero (suc n) r h e = step_zero r h (steps_zero n (bit_step 15 0x1021 r) (step_lt r h) e)

bytes_zero : (n r : ℕ) → r < 65536 → crc 15 0x1021 r (replicate n 0) ≡ 0 → r ≡ 0
unfolding crc byte_step
bytes_zero zero r h e = e
bytes_zero (suc n) r h e =
    steps_zero 8 r h (rw xor_zero_r at (bytes_zero n (byte_step 15 0x1021 r 0) (byte_lt16 0x1021 r 0 (lit< tt) h (lit< tt)) e))

pub start_value : StartValue
unfolding bit_step bit_steps byte_step crc
start_value = record { checks = refl; only = λ start h e. bytes_zero 3 start h (ap (λ (l : List ℕ). get_or l 0 0) e) }
