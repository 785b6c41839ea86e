-- Sizes of signed sums and products, and the bits of a signed number. Assumes nothing.
use mathlib.Core.Path.{◌≡◌, refl}
use mathlib.Core.Bool.{Bool, true, false, cond}
use Prim.Native.Nat.{ℕ, zero, suc, ◌+◌, ◌-◌, ◌*◌, ◌≤◌, ◌<◌}
use native.Mathlib.Omega.{arith}
use lib.Dec.{ltb, eqb}
use lib.IntN.{ℤ, pos, negsuc, nat_abs, neg_ℤ, sub_ℕ, ◌+ℤ◌, ◌*ℤ◌}
use lib.Signed.{mag}
use mir.Syntax.{w32}
use mir.Val.{SFits, of_z}
use borrow.Author.Tests.{ltb-true, ltb-false, ne_eqb}
use Rattle.charge.specs.Charge.{is_zero}

-- two numbers at most n apart
pub abs_sub : (a b n : ℕ) → a ≤ b + n → b ≤ a + n → nat_abs (sub_ℕ a b) ≤ n
abs_sub a b n h k = by (ltb a b) refl
  where
    by : (t : Bool) → ltb a b ≡ t → nat_abs (cond t (negsuc (b - suc a)) (pos (a - b))) ≤ n
    by true e = omega (arith, ltb-true a b e)
    by false e = omega (arith, ltb-false a b e)

pub abs_add : (x y : ℤ) → nat_abs (x +ℤ y) ≤ nat_abs x + nat_abs y
abs_add (pos a) (pos b) = omega arith
abs_add (pos a) (negsuc b) = abs_sub a (suc b) (a + suc b) (omega arith) (omega arith)
abs_add (negsuc a) (pos b) = abs_sub b (suc a) (suc a + b) (omega arith) (omega arith)
abs_add (negsuc a) (negsuc b) = omega arith

abs_neg : (n : ℕ) → nat_abs (neg_ℤ (pos n)) ≡ n
abs_neg zero = refl
abs_neg (suc n) = refl

pub abs_times : (a : ℕ) (x : ℤ) → nat_abs (pos a *ℤ x) ≡ a * nat_abs x
abs_times a (pos b) = refl
abs_times a (negsuc b) = abs_neg (a * suc b)

mag_le : (x : ℤ) → mag x ≤ nat_abs x
mag_le (pos a) = omega arith
mag_le (negsuc a) = omega arith

pub small_fits : (x : ℤ) → nat_abs x < 2147483648 → SFits w32 x
small_fits x h = record { sfits = omega (arith, mag_le x) }

-- bits are 0 exactly if their number is
pub zero_bits : (x : ℤ) → SFits w32 x → eqb (of_z w32 x) 0 ≡ is_zero x
unfolding is_zero
zero_bits (pos n) f = refl
zero_bits (negsuc n) f = ne_eqb (4294967296 - suc n) 0 (λ e. omega (arith, f.sfits))
