-- The check is linear: what the bits of a remainder leave is the sum without carries of what its parts leave. So a byte leaves what a table holds
-- for the top eight bits, and the bits below them moved up. Assumes nothing.
use mathlib.Core.Path.{◌≡◌, refl, sym, ap, ap₂, ◌∙◌, subst}
use mathlib.Core.List.{List, [], ◌∷◌, ◌++◌}
use Prim.Native.Nat.{ℕ, zero, suc, ◌+◌, ◌-◌, ◌*◌, ◌/◌, ◌%◌, ◌^◌, ◌<◌, ◌≤◌}
use native.Mathlib.Nat.{mod-lt, mod-one, mod-eq_of_lt, mul-mod_left, div-one, div-eq_of_lt, add-zero, zero-mul, one-mul, mul-one, mul_assoc, pow-suc, pow-succ', mul-lt-mul_of_pos_right, div-lt_iff_lt-mul}
use native.Mathlib.Numerals.{add-one}
use native.Mathlib.Omega.{arith}
use lib.Pow.{pow_pos, pow_mono, shl_lt, shr_lt, shl-shr, mod-pow-add, split}
use lib.Bits.{bit_xor, xor_mod, xor_shr, xor_lt, xor_block, xor_shifted, xor_comm, xor_zero_l, xor_zero_r}
use lib.ListN.{length, drop, get_or, drop_of_length-le}
use lib.Seq.{drop-cons}
use Rattle.crc.specs.Crc.{bit_step, bit_steps, byte_step, table_of, crc}
use Rattle.crc.proofs.Table.{entry}
use Rattle.crc.proofs.Xor.{xor_swap, xor_shl, xor_bit}

top : (k : ℕ) {a : ℕ} → a < 2 ^ suc k → a / 2 ^ k < 2
top k {a} h = (div-lt_iff_lt-mul (pow_pos k)).1 (subst (λ (n : ℕ). a < n) (pow-succ' 2 k) h)

doubled : (k : ℕ) {a : ℕ} → a < 2 ^ k → a * 2 < 2 ^ suc k
doubled k {a} h = subst (λ (n : ℕ). a * 2 < n) (sym (pow-suc 2 k)) (mul-lt-mul_of_pos_right h (omega arith))

-- a bit times a polynomial
scaled : (u p m : ℕ) → u < 2 → p < m → u * p < m
scaled zero p m hu hp = omega (arith, zero-mul p)
scaled (suc zero) p m hu hp = omega (arith, one-mul p)
scaled (suc (suc u)) p m hu hp = absurd (omega arith)

module _ (k poly : ℕ) where
  step_xor : (a b : ℕ) → a < 2 ^ suc k → b < 2 ^ suc k → bit_step k poly (bit_xor a b) ≡ bit_xor (bit_step k poly a) (bit_step k poly b)
  unfolding bit_step
  step_xor a b ha hb =
      ap₂ (λ (x y : ℕ). bit_xor (x * 2) (y * poly)) (xor_mod a b k) (xor_shr a b k)
      ∙ ap₂ bit_xor (xor_shl 1 (a % 2 ^ k) (b % 2 ^ k)) (xor_bit (a / 2 ^ k) (b / 2 ^ k) poly (top k ha) (top k hb))
      ∙ xor_swap (a % 2 ^ k * 2) (b % 2 ^ k * 2) (a / 2 ^ k * poly) (b / 2 ^ k * poly)

  step_small : (a : ℕ) → a < 2 ^ k → bit_step k poly a ≡ a * 2
  unfolding bit_step
  step_small a h =
      ap₂ (λ (x y : ℕ). bit_xor (x * 2) (y * poly)) (mod-eq_of_lt h) (div-eq_of_lt h)
      ∙ ap (bit_xor (a * 2)) (zero-mul poly) ∙ xor_zero_r (a * 2)

  -- bits that do not come to the top only move up
  low_bits : (n m a : ℕ) → n + m ≤ suc k → a < 2 ^ m → bit_steps n k poly a ≡ a * 2 ^ n
  unfolding bit_steps
  low_bits zero m a h l = sym (mul-one a)
  low_bits (suc n) m a h l =
      let up : 2 ^ m ≤ 2 ^ k = pow_mono (omega arith) in
      ap (bit_steps n k poly) (step_small a (omega arith)) ∙ low_bits n (suc m) (a * 2) (omega arith) (doubled m l)
      ∙ mul_assoc a 2 (2 ^ n) ∙ ap (λ (x : ℕ). a * x) (sym (pow-succ' 2 n))

  module _ (narrow : poly < 2 ^ suc k) where
    step_lt : (a : ℕ) → a < 2 ^ suc k → bit_step k poly a < 2 ^ suc k
    unfolding bit_step
    step_lt a h =
        xor_lt (suc k) (a % 2 ^ k * 2) (a / 2 ^ k * poly) (doubled k (mod-lt a (pow_pos k)))
        (scaled (a / 2 ^ k) poly (2 ^ suc k) (top k h) narrow)

    -- any number of bits is linear
    steps_xor : (n a b : ℕ) → a < 2 ^ suc k → b < 2 ^ suc k → bit_steps n k poly (bit_xor a b) ≡ bit_xor (bit_steps n k poly a) (bit_steps n k poly b)
    unfolding bit_steps
    steps_xor zero a b ha hb = refl
    steps_xor (suc n) a b ha hb = ap (bit_steps n k poly) (step_xor a b ha hb) ∙ steps_xor n (bit_step k poly a) (bit_step k poly b) (step_lt a ha) (step_lt b hb)

    steps_lt : (n a : ℕ) → a < 2 ^ suc k → bit_steps n k poly a < 2 ^ suc k
    unfolding bit_steps
    steps_lt zero a h = h
    steps_lt (suc n) a h = steps_lt n (bit_step k poly a) (step_lt a h)

-- a byte of its own, into the top eight bits of 0
alone : (m poly b : ℕ) → byte_step (7 + m) poly 0 b ≡ bit_steps 8 (7 + m) poly (b * 2 ^ m)
unfolding byte_step
alone m poly b =
    let at : 7 + m - 7 ≡ m = omega arith in
    rw at (ap (bit_steps 8 (7 + m) poly) (xor_zero_l (b * 2 ^ m)))

-- the place in the table: the top eight bits and the byte
pub place_lt : (m r b : ℕ) → r < 2 ^ (8 + m) → b < 256 → bit_xor (r / 2 ^ m) b < 256
place_lt m r b hr hb = xor_lt 8 (r / 2 ^ m) b (shr_lt 8 m hr) hb

-- THEOREM. A byte into 8 + m bits: the table's entry for the top eight, and the low m moved up.
pub by_table : (m poly r b : ℕ) → poly < 2 ^ (8 + m) → r < 2 ^ (8 + m) → b < 256
    → byte_step (7 + m) poly r b ≡ bit_xor (r % 2 ^ m * 256) (bit_steps 8 (7 + m) poly (bit_xor (r / 2 ^ m) b * 2 ^ m))
unfolding byte_step
by_table m poly r b hp hr hb =
    let k = 7 + m in
    let x = bit_xor (r / 2 ^ m) b in
    let wide : 2 ^ (8 + m) ≡ 2 ^ suc k = ap (λ (n : ℕ). 2 ^ n) (omega arith) in
    let at : k - 7 ≡ m = omega arith in
    let lo : r % 2 ^ m < 2 ^ m = mod-lt r (pow_pos m) in
    let up : 2 ^ m ≤ 2 ^ suc k = pow_mono (omega arith) in
    let hx : x * 2 ^ m < 2 ^ (8 + m) = shl_lt 8 m (place_lt m r b hr hb) in
    ap (λ (n : ℕ). bit_steps 8 k poly (bit_xor r (b * 2 ^ n))) at
    ∙ ap (bit_steps 8 k poly)
    (ap₂ bit_xor (sym (split r m)) (sym (add-zero (b * 2 ^ m))) ∙ xor_block m (r / 2 ^ m) b (r % 2 ^ m) 0 lo (pow_pos m)
    ∙ ap (λ (n : ℕ). x * 2 ^ m + n) (xor_zero_r (r % 2 ^ m)) ∙ sym (xor_shifted x m (r % 2 ^ m) lo))
    ∙ steps_xor k poly (omega arith) 8 (x * 2 ^ m) (r % 2 ^ m) (omega arith) (omega arith)
    ∙ ap (bit_xor (bit_steps 8 k poly (x * 2 ^ m))) (low_bits k poly 8 m (r % 2 ^ m) (omega arith) lo)
    ∙ xor_comm (bit_steps 8 k poly (x * 2 ^ m)) (r % 2 ^ m * 256)

looked_up : (m poly : ℕ) (table : List ℕ) → table ≡ table_of (7 + m) poly → (r b : ℕ) → poly < 2 ^ (8 + m) → r < 2 ^ (8 + m) → b < 256
    → bit_xor (r % 2 ^ m * 256) (get_or table (bit_xor (r / 2 ^ m) b) 0) ≡ byte_step (7 + m) poly r b
looked_up m poly table e r b hp hr hb =
    let x = bit_xor (r / 2 ^ m) b in
    ap (bit_xor (r % 2 ^ m * 256)) (ap (λ (t : List ℕ). get_or t x 0) e ∙ entry (7 + m) poly x (place_lt m r b hr hb) ∙ alone m poly x)
    ∙ sym (by_table m poly r b hp hr hb)

byte_lt : (m poly r b : ℕ) → poly < 2 ^ (8 + m) → r < 2 ^ (8 + m) → b < 256 → byte_step (7 + m) poly r b < 2 ^ (8 + m)
unfolding byte_step
byte_lt m poly r b hp hr hb =
    let wide : 2 ^ (8 + m) ≡ 2 ^ suc (7 + m) = ap (λ (n : ℕ). 2 ^ n) (omega arith) in
    let at : 7 + m - 7 ≡ m = omega arith in
    let x = bit_xor r (b * 2 ^ m) in
    let hx : x < 2 ^ (8 + m) = xor_lt (8 + m) r (b * 2 ^ m) hr (shl_lt 8 m hb) in
    let h = steps_lt (7 + m) poly (omega arith) 8 x (omega arith) in
    rw at (omega arith)

-- into eight bits nothing stands below: a byte leaves what stands in the table at its sum with the remainder
pub looked_up8 : (poly : ℕ) (table : List ℕ) → table ≡ table_of 7 poly → (r b : ℕ) → poly < 256 → r < 256 → b < 256 → get_or table (bit_xor r b) 0 ≡ byte_step 7 poly r b
looked_up8 poly table e r b hp hr hb = simp (mod-one, div-one, xor_zero_l) at (looked_up 0 poly table e r b hp hr hb)

pub byte_lt8 : (poly r b : ℕ) → poly < 256 → r < 256 → b < 256 → byte_step 7 poly r b < 256
byte_lt8 = byte_lt 0

pub looked_up16 : (poly : ℕ) (table : List ℕ) → table ≡ table_of 15 poly → (r b : ℕ) → poly < 65536 → r < 65536 → b < 256
    → bit_xor (r % 256 * 256) (get_or table (bit_xor (r / 256) b) 0) ≡ byte_step 15 poly r b
looked_up16 = looked_up 8

pub byte_lt16 : (poly r b : ℕ) → poly < 65536 → r < 65536 → b < 256 → byte_step 15 poly r b < 65536
byte_lt16 = byte_lt 8

-- sixteen bits moved up by eight: the upper eight fall out
pub moved16 : (r : ℕ) → r * 256 % 65536 ≡ r % 256 * 256
moved16 r = mod-pow-add (r * 256) 8 8 ∙ ap₂ (λ (x y : ℕ). x % 256 * 256 + y) (shl-shr r 8) (mul-mod_left r 256) ∙ add-zero (r % 256 * 256)

-- ---- bytes one after the other
pub crc_append : (k poly r : ℕ) (a b : List ℕ) → crc k poly r (a ++ b) ≡ crc k poly (crc k poly r a) b
unfolding crc
crc_append k poly r [] b = refl
crc_append k poly r (x ∷ a) b = crc_append k poly (byte_step k poly r x) a b

-- a turn of a loop over bytes, and its end
pub crc_turn : (k poly q : ℕ) (s : List ℕ) (i : ℕ) → i < length s → crc k poly q (drop i s) ≡ crc k poly (byte_step k poly q (get_or s i 0)) (drop (i + 1) s)
unfolding crc
crc_turn k poly q s i h = rw (add-one i, drop-cons s i 0)

pub crc_end : (k poly q : ℕ) (s : List ℕ) (i : ℕ) → length s ≤ i → crc k poly q (drop i s) ≡ q
unfolding crc
crc_end k poly q s i h = rw (drop_of_length-le s h)
