-- Points read one after the other: what holds of so many, and of one more. Assumes nothing.
use Prim.Native.Nat.{ℕ, zero, suc, ◌+◌, ◌*◌, ◌%◌, ◌≤◌, ◌<◌}
use mathlib.Core.Path.{◌≡◌, refl, sym, ap, ◌∙◌}
use mathlib.Core.Bool.{Bool, true, false, ◌&&◌, and-true, and-false, and_assoc}
use mathlib.Core.List.{List, ◌∷◌}
use native.Mathlib.Omega.{arith}
use lib.Dec.{eqb}
use lib.IntN.{ℤ, nat_abs, ◌+ℤ◌, +ℤ_assoc, +ℤ_idl, +ℤ_idr}
use lib.ListN.{drop, set}
use lib.Seq.{drop-drop}
use mir.Syntax.{w32}
use mir.Val.{SFits}
use native.Mathlib.Numerals.{add-one}
use borrow.Author.Tests.{eq-eqb, ne_eqb}
use Rattle.charge.specs.declared.Point.{Point}
use Rattle.charge.specs.Charge.{point_good, part_of, weighed_point}
use Rattle.commands.proofs.Tests.{both}
use Rattle.charge.proofs.Sizes.{abs_add, small_fits}
use Rattle.charge.proofs.Points.{paper_of_good, part_small, weighed_good, weighed_bad}
use Rattle.commands3.specs.Points.{word_in, no_point, point_in, points_in}
use Rattle.std.specs.Prelude.{Some, None}
use Rattle.points3.specs.Pulses.{point_of, points_right, parts_of, points_read}

-- the data of the points behind the first
behind : (i : ℕ) (d : List ℕ) → drop (4 * suc i) d ≡ drop (4 * i) (drop 4 d)
behind i d = let e : 4 * suc i ≡ 4 + 4 * i = omega arith in rw (e, drop-drop (4 * i) 4 d)

-- ---- the points

none : (places : ℕ) (d e : List ℕ) → points_in places 0 d ≡ points_in places 0 e
unfolding points_in
none zero d e = refl
none (suc places) d e = ap (λ (l : List Point). no_point ∷ l) (none places d e)

pub one_more : (places i : ℕ) (d : List ℕ) → i < places → set (points_in places i d) i (point_in (drop (4 * i) d)) ≡ points_in places (suc i) d
unfolding points_in
one_more zero i d h = absurd (omega arith)
one_more (suc places) zero d h = ap (λ (l : List Point). point_in d ∷ l) (none places d (drop 4 d))
one_more (suc places) (suc i) d h =
    ap (λ (l : List Point). point_in d ∷ l)
    (ap (λ (e : List ℕ). set (points_in places i (drop 4 d)) i (point_in e)) (behind i d) ∙ one_more places i (drop 4 d) (omega arith))

-- ---- their tests

-- the test of the first point
abbrev first : List ℕ → Bool
first d = eqb (word_in d % 1024) 0 && point_good (point_in d)

pub right_more : (i : ℕ) (d : List ℕ) → points_right i d && first (drop (4 * i) d) ≡ points_right (suc i) d
unfolding points_right
right_more zero d = sym (and-true (first d))
right_more (suc i) d =
    and_assoc (first d) (points_right i (drop 4 d)) (first (drop (4 * suc i) d))
    ∙ ap (λ (b : Bool). first d && b) (ap (λ (e : List ℕ). points_right i (drop 4 d) && first e) (behind i d) ∙ right_more i (drop 4 d))

-- where one is not right, they are not
pub right_stops : (n i : ℕ) (d : List ℕ) → i < n → first (drop (4 * i) d) ≡ false → points_right n d ≡ false
unfolding points_right
right_stops zero i d h e = absurd (omega arith)
right_stops (suc n) zero d h e = rw e
right_stops (suc n) (suc i) d h e =
    ap (λ (b : Bool). first d && b) (right_stops n i (drop 4 d) (omega arith) (ap first (sym (behind i d)) ∙ e)) ∙ and-false (first d)

-- ---- their parts of the net charge

pub parts_more : (i : ℕ) (d : List ℕ) → parts_of i d +ℤ part_of (point_in (drop (4 * i) d)) ≡ parts_of (suc i) d
unfolding parts_of
parts_more zero d = +ℤ_idl (part_of (point_in d)) ∙ sym (+ℤ_idr (part_of (point_in d)))
parts_more (suc i) d =
    let z = part_of (point_in d) in
    +ℤ_assoc z (parts_of i (drop 4 d)) (part_of (point_in (drop (4 * suc i) d)))
    ∙ ap (λ (x : ℤ). z +ℤ x) (ap (λ (e : List ℕ). parts_of i (drop 4 d) +ℤ part_of (point_in e)) (behind i d) ∙ parts_more i (drop 4 d))

parts_small : (n : ℕ) (d : List ℕ) → points_right n d ≡ true → nat_abs (parts_of n d) ≤ n * 1228500
unfolding parts_of points_right
parts_small zero d e = omega arith
parts_small (suc n) d e =
    let t = both (first d) (points_right n (drop 4 d)) e in
    let g = both (eqb (word_in d % 1024) 0) (point_good (point_in d)) t.0 in
    omega (arith, abs_add (part_of (point_in d)) (parts_of n (drop 4 d)), part_small (point_in d) (paper_of_good (point_in d) g.1), parts_small n (drop 4 d) t.1)

pub parts_fit : (n : ℕ) (d : List ℕ) → n ≤ 16 → points_right n d ≡ true → SFits w32 (parts_of n d)
parts_fit n d h e = small_fits (parts_of n d) (omega (arith, parts_small n d e))

-- ---- a point as the code reads it

module _ (d : List ℕ) (i w : ℕ) (told : w ≡ word_in (drop (4 * i) d)) where
  pub bit_stops : (n : ℕ) → i < n → (w % 1024 ≡ 0 → ⊥) → None ≡ points_read n d
  unfolding points_read
  bit_stops n h k = rw (right_stops n i d h (rw (sym told, ne_eqb (w % 1024) 0 k)))

  module _ (p : Point) (made : p ≡ point_of w) where
    pub point : p ≡ point_in (drop (4 * i) d)
    unfolding point_in
    point = made ∙ ap point_of told

    pub bad_stops : (n : ℕ) → i < n → None ≡ weighed_point p → None ≡ points_read n d
    unfolding points_read
    bad_stops n h e =
        let bad : point_good (point_in (drop (4 * i) d)) ≡ false = rw point at (weighed_bad p e) in
        rw (right_stops n i d h (rw (bad, and-false (eqb (word_in (drop (4 * i) d) % 1024) 0))))

    module _ (clear : w % 1024 ≡ 0) (z : ℤ) (e : Some z ≡ weighed_point p) where
      pub one_right : points_right i d ≡ true → points_right (i + 1) d ≡ true
      one_right r =
          let good : point_good (point_in (drop (4 * i) d)) ≡ true = rw point at (weighed_good p z e).0 in
          let bit : eqb (word_in (drop (4 * i) d) % 1024) 0 ≡ true = rw (sym told) (eq-eqb (w % 1024) 0 clear) in
          rw (add-one i, sym (right_more i d), r, bit, good)

      pub one_part : parts_of i d +ℤ z ≡ parts_of (i + 1) d
      one_part =
          rw (add-one i) (ap (λ (x : ℤ). parts_of i d +ℤ x) ((weighed_good p z e).1 ∙ ap part_of point) ∙ parts_more i d)

pub all_read : (n : ℕ) (d : List ℕ) → points_right n d ≡ true → Some (record { points = points_in 16 n d; charge = parts_of n d }) ≡ points_read n d
unfolding points_read
all_read n d e = rw e
