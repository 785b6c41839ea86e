-- Laws of fields, over any width. Assumes nothing.
use Prim.Native.Nat.{ℕ, ◌+◌, ◌-◌, ◌*◌, ◌/◌, ◌%◌, ◌^◌, ◌≤◌, ◌<◌}
use mathlib.Core.Path.{◌≡◌, sym, ◌∙◌}
use native.Mathlib.Omega.{arith}
use native.Mathlib.Nat.{one-mul, add-zero, zero-add, mul_assoc, mul-mod_left, zero-mod, mod-lt, mod-eq_of_lt, div-eq_of_lt, lt_of_lt_of_le, lt_of_le_of_lt}
use lib.Arith.{digits_lt}
use lib.Pow.{shl_lt, pow_pos, pow-add, pow_mono, pow-lt, shr_le, shl-shr, mod-pow-add}
use lib.Bits.{bit_or, or_shifted}
use Rattle.bits.specs.Fields.{field, below}

pub one_shifted : (k : ℕ) → k < 64 → 1 * 2 ^ k % 2 ^ 64 ≡ 2 ^ k
one_shifted k h = rw one-mul (mod-eq_of_lt (pow-lt h))

-- 64 bits stand below place 64
pub field_above : (w low width : ℕ) → w < 2 ^ 64 → 64 ≤ low → 0 ≡ field w low width
field_above w low width h l =
    rw (div-eq_of_lt (lt_of_lt_of_le h (pow_mono l))) (sym (zero-mod (2 ^ width)))

-- and a field of 64 bits or more holds them all
pub field_whole : (w low width : ℕ) → w < 2 ^ 64 → 64 ≤ width → w / 2 ^ low ≡ field w low width
field_whole w low width h l =
    sym (mod-eq_of_lt (lt_of_le_of_lt (shr_le w low) (lt_of_lt_of_le h (pow_mono l))))

-- what is kept of a number moved up
kept : (w k : ℕ) → k ≤ 64 → w * 2 ^ k % 2 ^ 64 ≡ (w % 2 ^ (64 - k)) * 2 ^ k
kept w k h =
    let e : 64 - k + k ≡ 64 = omega arith in
    let m : w * 2 ^ k % 2 ^ (64 - k + k) ≡ (w % 2 ^ (64 - k)) * 2 ^ k =
    mod-pow-add (w * 2 ^ k) (64 - k) k ∙ simp (shl-shr, mul-mod_left, add-zero) in
    rw e at m

pub or_below : (w k v : ℕ) → k < 64 → v < 2 ^ k → bit_or (w * 2 ^ k % 2 ^ 64) v ≡ w * 2 ^ k % 2 ^ 64 + v
or_below w k v h l = let le : k ≤ 64 = omega arith in rw (kept w k le) (or_shifted _ k v l)

-- a number moved up by 64 bits or more leaves nothing
pub below_all : (w k v : ℕ) → v < 2 ^ 64 → 64 ≤ k → v ≡ below w k v
unfolding below
below_all w k v h l =
    let e : k - 64 + 64 ≡ k = omega arith in
    let gone : w * 2 ^ (k - 64 + 64) % 2 ^ 64 ≡ 0 =
    rw (pow-add 2 (k - 64) 64, ← mul_assoc) (mul-mod_left (w * 2 ^ (k - 64)) (2 ^ 64)) in
    rw (rw e at gone, mod-eq_of_lt (lt_of_lt_of_le h (pow_mono l))) (sym (zero-add v))

-- where there is room, the digits of v stand below those of w, and together they are as many as both have
module _ (j k : ℕ) {w v : ℕ} (hw : w < 2 ^ j) (hv : v < 2 ^ k) where
  pub below_fits : j + k ≤ 64 → below w k v ≡ w * 2 ^ k + v
  unfolding below
  below_fits h = rw (mod-eq_of_lt (lt_of_lt_of_le (shl_lt j k hw) (pow_mono h)), mod-eq_of_lt hv)

  pub joined_lt : w * 2 ^ k + v < 2 ^ (j + k)
  joined_lt = rw (pow-add 2 j k) (digits_lt hw hv)

-- a field is below the power of its width
pub field_lt : (w low width : ℕ) → field w low width < 2 ^ width
field_lt w low width = mod-lt (w / 2 ^ low) (pow_pos width)
