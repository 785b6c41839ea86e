-- Tests of values: no pulse, whose net charge is zero, and a balanced pulse. Assumes nothing.
use Prim.Native.Nat.{ℕ, zero, suc}
use mathlib.Core.Path.{◌≡◌, refl, ap}
use mathlib.Core.Bool.{Bool, true, false, cond, ◌&&◌, and-true, and-false}
use mathlib.Core.List.{List, [], ◌∷◌}
use native.Mathlib.Omega.{arith}
use lib.Dec.{eqb}
use lib.IntN.{ℤ, pos, negsuc, nat_abs}
use lib.ListN.{length, replicate}
use borrow.Author.Tests.{eqb-true, eq-eqb}
use Rattle.std.proofs.Common.{Some, None, int_eq}
use Rattle.std.proofs.lemmas.Bool.Decides.{same_from_decides, Decides-int_eq}
use Rattle.std.specs.Option.{option_eq}
use Rattle.std.specs.Cmp.Lexicographic.{pointwise}
use Rattle.charge.specs.declared.Point.{Point}
use Rattle.charge.specs.declared.Pulse.{Pulse}
use Rattle.charge.specs.Charge.{all, is_zero_point, pulse_good, net_of, charge_of, is_zero, weighed}
use Rattle.charge.proofs.Points.{no_point}
use Rattle.commands.proofs.Tests.{both}
use Rattle.commands3.specs.Commands.{is_no_pulse}

-- points are equal as their fields are
abbrev pub same : Point → Point → Bool
same p q = eqb p.duration q.duration && eqb p.code q.code

zeros : (l : List Point) (n : ℕ) → length l ≡ n → pointwise same l (replicate n no_point) ≡ all is_zero_point l
unfolding all is_zero_point
zeros [] zero h = refl
zeros [] (suc n) h = absurd (omega arith)
zeros (p ∷ l) zero h = absurd (omega arith)
zeros (p ∷ l) (suc n) h = ap (λ (b : Bool). is_zero_point p && b) (zeros l n (omega arith))

pub no_pulse_lem : (p : Pulse) → length p.points ≡ 16 → eqb p.number 0 && pointwise same p.points (replicate 16 no_point) ≡ is_no_pulse p
unfolding is_no_pulse
no_pulse_lem p h = ap (λ (b : Bool). eqb p.number 0 && b) (zeros p.points 16 h)

zero_test : (z : ℤ) → int_eq z (pos 0) ≡ is_zero z
unfolding is_zero
zero_test (pos n) = same_from_decides _ (eqb n 0) (Decides-int_eq (pos n) (pos 0)) (λ e. ap pos (eqb-true n 0 e), λ e. eq-eqb n 0 (ap nat_abs e))
zero_test (negsuc n) = refl

balanced_test : (t : Bool) (z : ℤ) → option_eq int_eq (cond t (Some z) None) (Some (pos 0)) ≡ t && is_zero z
balanced_test false z = refl
balanced_test true z = zero_test z

pub balanced : (p : Pulse) → option_eq int_eq (weighed p) (Some (pos 0)) ≡ pulse_good p && is_zero (charge_of p)
unfolding weighed
balanced p = balanced_test (pulse_good p) (charge_of p)

none_balanced : (p : Pulse) → is_no_pulse p ≡ true → is_zero (charge_of p) ≡ true
unfolding is_no_pulse net_of is_zero
none_balanced p e = let n : p.number ≡ 0 = eqb-true p.number 0 (both (eqb p.number 0) (all is_zero_point p.points) e).0 in rw n

-- beside no pulse nothing is asked of the charge
pub no_charge : (p : Pulse) (x : Bool) → x && is_no_pulse p && is_zero (charge_of p) ≡ x && is_no_pulse p
no_charge p x = by (is_no_pulse p) refl
  where
    by : (t : Bool) → is_no_pulse p ≡ t → x && t && is_zero (charge_of p) ≡ x && t
    by true e = rw (none_balanced p e) (and-true (x && true))
    by false e = rw (and-false x)
