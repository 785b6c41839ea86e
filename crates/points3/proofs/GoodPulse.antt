-- The pulse of a channel config is good, and has its net charge, as its points tell one by one. Assumes nothing.
use Prim.Native.Nat.{ℕ, zero, suc, ◌+◌, ◌/◌, ◌%◌, ◌≤◌}
use mathlib.Core.Path.{◌≡◌, refl, sym, ap, ◌∙◌}
use mathlib.Core.Bool.{Bool, true, false, cond, ◌&&◌, and-true, and-false, and_assoc}
use mathlib.Core.List.{List}
use native.Mathlib.Omega.{arith}
use lib.Dec.{eqb}
use lib.IntN.{ℤ, ◌+ℤ◌}
use lib.ListN.{length, get_or, take, drop}
use borrow.Author.Tests.{le-leb, eq-eqb, ne_eqb}
use Rattle.charge.specs.Charge.{point_good, is_zero_point, all, pulse_good, part_of, net_of}
use Rattle.commands3.specs.Points.{word_in, point_in, points_in, points_clear}
use Rattle.commands3.specs.Commands.{config_in, reserved_clear}
use Rattle.std.specs.Prelude.{Option, Some, None, option_map}
use Rattle.points3.specs.declared.PointsRead.{PointsRead}
use Rattle.points3.specs.declared.PulseRead.{PulseRead}
use Rattle.points3.specs.Pulses.{points_right, parts_of, points_read, size_of, pulse_right, pulse_read}

sorted : (a b c d : Bool) → (a && b) && (c && d) ≡ (a && c) && (b && d)
sorted true true c d = refl
sorted true false true d = refl
sorted true false false d = refl
sorted false b c d = refl

-- those past the number are zero
zeros : (places n : ℕ) (d : List ℕ) → all is_zero_point (drop n (points_in places n d)) ≡ true
unfolding all is_zero_point points_in
zeros zero zero d = refl
zeros zero (suc n) d = refl
zeros (suc places) zero d = zeros places 0 d
zeros (suc places) (suc n) d = zeros places n (drop 4 d)

-- each clear and good is all clear and all good
apart : (places n : ℕ) (d : List ℕ) → n ≤ places → points_right n d ≡ points_clear n d && all point_good (take n (points_in places n d))
unfolding all points_in points_clear points_right
apart places zero d h = refl
apart zero (suc n) d h = absurd (omega arith)
apart (suc places) (suc n) d h =
    ap (λ (b : Bool). (eqb (word_in d % 1024) 0 && point_good (point_in d)) && b) (apart places n (drop 4 d) (omega arith))
    ∙ sorted (eqb (word_in d % 1024) 0) (point_good (point_in d)) (points_clear n (drop 4 d)) (all point_good (take n (points_in places n (drop 4 d))))

-- the parts are those of the points
net : (places n : ℕ) (d : List ℕ) → n ≤ places → parts_of n d ≡ net_of (take n (points_in places n d))
unfolding net_of points_in parts_of
net places zero d h = refl
net zero (suc n) d h = absurd (omega arith)
net (suc places) (suc n) d h = ap (λ (z : ℤ). part_of (point_in d) +ℤ z) (net places n (drop 4 d) (omega arith))

module _ (d : List ℕ) where
  abbrev number : ℕ
  number = get_or d 0 0 % 16 + 1

  good : pulse_good (config_in d).pulse ≡ all point_good (take number (points_in 16 number (drop 1 d)))
  unfolding pulse_good
  good =
      rw (le-leb 1 number (omega arith), le-leb number 16 (omega arith), zeros 16 number (drop 1 d))
      (and-true (all point_good (take number (points_in 16 number (drop 1 d)))))

  -- reserved bits and values, by the points
  tested : reserved_clear 2 d && pulse_good (config_in d).pulse ≡ eqb (get_or d 0 0 / 16 % 2) 0 && points_right number (drop 1 d)
  unfolding reserved_clear
  tested =
      rw (good, apart 16 number (drop 1 d) (omega arith))
      (and_assoc (eqb (get_or d 0 0 / 16 % 2) 0) (points_clear number (drop 1 d)) (all point_good (take number (points_in 16 number (drop 1 d)))))

-- ---- what the code tells

-- the pulse of points that are read
abbrev pub made : ℕ → PointsRead → PulseRead
made number read = record { pulse = record { number = number; points = read.points }; charge = read.charge }

module _ (d : List ℕ) (first : ℕ) (e : first ≡ get_or d 0 0) where
  pub told : length d ≡ size_of first → first / 16 % 2 ≡ 0 → (read : Option PointsRead) → read ≡ points_read (first % 16 + 1) (drop 1 d)
      → option_map (made (first % 16 + 1)) read ≡ pulse_read d
  unfolding pulse_right points_read pulse_read
  told h k read r =
      let size : eqb (length d) (size_of (get_or d 0 0)) ≡ true = eq-eqb (length d) (size_of (get_or d 0 0)) (rw e at h) in
      let clear : eqb (get_or d 0 0 / 16 % 2) 0 ≡ true = eq-eqb (get_or d 0 0 / 16 % 2) 0 (rw e at k) in
      let parts = net 16 (get_or d 0 0 % 16 + 1) (drop 1 d) (omega arith) in
      rw (r, e, size, tested d, clear, sym parts) (by (points_right (get_or d 0 0 % 16 + 1) (drop 1 d)) _ (made (get_or d 0 0 % 16 + 1)))
    where
      by : (t : Bool) (q : PointsRead) (f : PointsRead → PulseRead) → option_map f (cond t (Some q) None) ≡ cond t (Some (f q)) None
      by true q f = refl
      by false q f = refl

  pub wrong_size : (length d ≡ size_of first → ⊥) → None ≡ pulse_read d
  unfolding pulse_right pulse_read
  wrong_size n = rw (ne_eqb (length d) (size_of (get_or d 0 0)) (rw e at n))

  pub wrong_bit : (first / 16 % 2 ≡ 0 → ⊥) → None ≡ pulse_read d
  unfolding pulse_right pulse_read
  wrong_bit n = rw (tested d, ne_eqb (get_or d 0 0 / 16 % 2) 0 (rw e at n), and-false (eqb (length d) (size_of (get_or d 0 0))))
