-- Signed bytes: what the code's tests and sums of them are, in the words of the definitions. Assumes nothing.
use Prim.Native.Nat.{ℕ, zero, suc, ◌-◌, ◌≤◌, ◌<◌}
use mathlib.Core.Path.{◌≡◌, refl, sym, ap, ◌∙◌}
use mathlib.Core.Bool.{Bool, true, false, ◌&&◌, and-true}
use native.Mathlib.Omega.{arith}
use lib.Dec.{leb, ltb, eqb, leb-suc-zero, eqb-suc-zero}
use lib.IntN.{ℤ, pos, negsuc}
use lib.Signed.{le_z}
use mir.Syntax.{w8}
use mir.Val.{SFits, of_z, to_z}
use mir.Facts.{to_z_pos, to_z-neg}
use borrow.Author.Tests.{leb-true, ltb-true, ltb-false, eqb-true, lt-ltb, le-ltb, eq-eqb, ne_eqb}
use Rattle.commands2.specs.Results.{no_error, good_result, byte_of, signed_of}

leb_zero : (n : ℕ) → leb n 0 ≡ eqb n 0
leb_zero zero = refl
leb_zero (suc n) = leb-suc-zero n ∙ sym (eqb-suc-zero n)

pub good_range : (z : ℤ) → le_z (negsuc 7) z && le_z z (pos 0) ≡ good_result z
unfolding good_result
good_range (pos n) = leb_zero n
good_range (negsuc n) = and-true (leb n 7)

-- ---- a test of the bits against 0

pub no_error_bits : (z : ℤ) → SFits w8 z → eqb (of_z w8 z) 0 ≡ no_error z
unfolding no_error
no_error_bits (pos n) f = refl
no_error_bits (negsuc n) f = ne_eqb (256 - suc n) 0 (λ e. omega (arith, f.sfits))

pub no_error_lem : (z : ℤ) → SFits w8 z → of_z w8 z ≡ 0 → no_error z ≡ true
no_error_lem z f e = sym (no_error_bits z f) ∙ eq-eqb (of_z w8 z) 0 e

pub error : (z : ℤ) → SFits w8 z → (of_z w8 z ≡ 0 → ⊥) → no_error z ≡ false
error z f n = sym (no_error_bits z f) ∙ ne_eqb (of_z w8 z) 0 n

-- ---- what a byte stands for

pub signed_low : (b : ℕ) → b < 128 → signed_of b ≡ pos b
unfolding signed_of
signed_low b h = rw (lt-ltb b 128 h)

signed_high : (b : ℕ) → 128 ≤ b → signed_of b ≡ negsuc (255 - b)
unfolding signed_of
signed_high b h = rw (le-ltb b 128 h)

pub signed_is : (b : ℕ) → b < 256 → to_z w8 b ≡ signed_of b
signed_is b h = by (ltb b 128) refl
  where
    by : (t : Bool) → ltb b 128 ≡ t → to_z w8 b ≡ signed_of b
    by true e = let l = ltb-true b 128 e in to_z_pos w8 l ∙ sym (signed_low b l)
    by false e =
        let l = ltb-false b 128 e in
        let n : 256 - suc (255 - b) ≡ b = omega arith in
        (rw n at (to_z-neg w8 (255 - b) (omega arith))) ∙ sym (signed_high b l)

-- ---- the byte that holds it

pub byte_is : (z : ℤ) → of_z w8 z ≡ byte_of z
unfolding byte_of
byte_is (pos n) = refl
byte_is (negsuc n) = omega arith

-- ---- there and back

pub signed_byte : (z : ℤ) → good_result z ≡ true → signed_of (byte_of z) ≡ z
unfolding good_result byte_of
signed_byte (pos n) g = let e : n ≡ 0 = eqb-true n 0 g in rw e (signed_low 0 (omega arith))
signed_byte (negsuc n) g =
    let h : n ≤ 7 = leb-true n 7 g in signed_high (255 - n) (omega arith) ∙ ap negsuc (omega arith)

pub byte_signed : (b : ℕ) → b < 256 → byte_of (signed_of b) ≡ b
unfolding byte_of
byte_signed b h = by (ltb b 128) refl
  where
    by : (t : Bool) → ltb b 128 ≡ t → byte_of (signed_of b) ≡ b
    by true e = rw (signed_low b (ltb-true b 128 e))
    by false e = rw (signed_high b (ltb-false b 128 e)) (omega (arith, ltb-false b 128 e))
