-- Rows of points: tests that all pass, and sums, one point after the other. Assumes nothing.
use mathlib.Core.Path.{◌≡◌, refl, sym, ap, ap₂, ◌∙◌}
use mathlib.Core.Bool.{Bool, true, false, ◌&&◌, and-false}
use mathlib.Core.List.{List, [], ◌∷◌, ◌++◌}
use Prim.Native.Nat.{ℕ, zero, suc, ◌+◌, ◌*◌, ◌≤◌, ◌<◌}
use native.Mathlib.Nat.{mul-le-mul, le_of_suc-le-suc, not-suc-le-zero}
use native.Mathlib.Omega.{arith}
use native.Mathlib.Numerals.{add-one}
use lib.ListN.{length, take, drop, get_or}
use lib.Seq.{take-suc, take-nil}
use lib.Dec.{leb, eqb}
use Rattle.std.specs.List.{fold}
use Rattle.std.proofs.Math.Bool.{and-true, and_assoc}
use Rattle.std.specs.Prelude.{cond, Some, None}
use lib.IntN.{ℤ, pos, nat_abs, ◌+ℤ◌, ◌-ℤ◌, +ℤ_assoc, +ℤ_idl, +ℤ_idr}
use borrow.Author.Tests.{leb-true, le-leb, eqb-true}
use Rattle.commands.proofs.Tests.{both}
use Rattle.charge.specs.declared.Point.{Point}
use Rattle.charge.specs.Charge.{of_paper, within_limit, point_good, all, is_zero_point, part_of, net_of, weighed_point}
use Rattle.charge.proofs.Sizes.{abs_sub, abs_add, abs_times}

-- a test that another one makes sure of need not be asked
spared : (a b c : Bool) → (c ≡ true → b ≡ true) → a && c ≡ a && b && c
spared false b c h = refl
spared true b true h = rw (h refl)
spared true b false h = sym (and-false b)

-- ---- a point

abbrev pub no_point : Point
no_point = record { duration = 0; code = 0 }

pub good_tests_lem : (p : Point) → leb p.duration 4095 && within_limit p ≡ point_good p
unfolding point_good of_paper within_limit
good_tests_lem p =
    spared (leb p.duration 4095) (leb p.code 600) (within_limit p)
    (λ e. let h = leb-true p.code 560 (both (leb 40 p.code) (leb p.code 560) e).1 in le-leb p.code 600 (omega arith))

pub paper_of_good : (p : Point) → point_good p ≡ true → of_paper p ≡ true
unfolding point_good
paper_of_good p e = (both (of_paper p) (within_limit p) e).0

zero_fields : (p : Point) → is_zero_point p ≡ true → (p.duration ≡ 0) × (p.code ≡ 0)
unfolding is_zero_point
zero_fields p e =
    let t = both (eqb p.duration 0) (eqb p.code 0) e in
    (eqb-true p.duration 0 t.0, eqb-true p.code 0 t.1)

paper_of_zero : (p : Point) → is_zero_point p ≡ true → of_paper p ≡ true
unfolding of_paper
paper_of_zero p e = let z = zero_fields p e in rw (z.0, z.1)

module _ (p : Point) (e : of_paper p ≡ true) where
  pub paper_duration : p.duration ≤ 4095
  unfolding of_paper
  paper_duration = leb-true p.duration 4095 (both (leb p.duration 4095) (leb p.code 600) e).0

  pub paper_code : p.code ≤ 600
  unfolding of_paper
  paper_code = leb-true p.code 600 (both (leb p.duration 4095) (leb p.code 600) e).1

  pub code_small : nat_abs (pos p.code -ℤ pos 300) ≤ 300
  code_small = let h = paper_code in abs_sub p.code 300 300 (omega arith) (omega arith)

  pub part_small : nat_abs (part_of p) ≤ 1228500
  unfolding part_of
  part_small = rw abs_times (mul-le-mul paper_duration code_small)

-- of a good point alone a part is told
pub weighed_good : (p : Point) (z : ℤ) → Some z ≡ weighed_point p → (point_good p ≡ true) × (z ≡ part_of p)
unfolding weighed_point
weighed_good p z e = by (point_good p) refl e
  where
    by : (t : Bool) → point_good p ≡ t → Some z ≡ cond t (Some (part_of p)) None → (point_good p ≡ true) × (z ≡ part_of p)
    by true f e = (f, cc)
    by false f e = cc

pub weighed_bad : (p : Point) → None ≡ weighed_point p → point_good p ≡ false
unfolding weighed_point
weighed_bad p e = by (point_good p) refl e
  where
    by : (t : Bool) → point_good p ≡ t → None ≡ cond t (Some (part_of p)) None → point_good p ≡ false
    by true f e = cc
    by false f e = f

-- ---- a row of tests

-- joined from the first point on, without leaving early
pub all_joined : (test : Point → Bool) (l : List Point) → fold (λ b p. b && test p) true l ≡ all test l
unfolding all
all_joined test l = on true l where
  on : (b : Bool) (l : List Point) → fold (λ b p. b && test p) b l ≡ b && all test l
  on b [] = sym (and-true b)
  on b (p ∷ l) = on (b && test p) l ∙ and_assoc b (test p) (all test l)

module _ (test : Point → Bool) where
  pub all_at : (l : List Point) (i : ℕ) (d : Point) → i < length l → all test l ≡ true → test (get_or l i d) ≡ true
  unfolding all
  all_at [] i d h e = absurd (not-suc-le-zero h)
  all_at (p ∷ l) zero d h e = (both (test p) (all test l) e).0
  all_at (p ∷ l) (suc i) d h e = all_at l i d (le_of_suc-le-suc h) (both (test p) (all test l) e).1

  pub all_take : (i : ℕ) (l : List Point) → all test l ≡ true → all test (take i l) ≡ true
  unfolding all
  all_take zero l e = refl
  all_take (suc i) [] e = refl
  all_take (suc i) (p ∷ l) e = let f = both (test p) (all test l) e in ap₂ (λ (a b : Bool). a && b) f.0 (all_take i l f.1)

all_weaker : (f g : Point → Bool) → ((p : Point) → f p ≡ true → g p ≡ true) → (l : List Point) → all f l ≡ true → all g l ≡ true
unfolding all
all_weaker f g h [] e = refl
all_weaker f g h (p ∷ l) e = let t = both (f p) (all f l) e in ap₂ (λ (a b : Bool). a && b) (h p t.0) (all_weaker f g h l t.1)

pub all_paper : (n : ℕ) (l : List Point) → all point_good (take n l) ≡ true → all is_zero_point (drop n l) ≡ true → all of_paper l ≡ true
unfolding all
all_paper zero l g z = all_weaker is_zero_point of_paper paper_of_zero l z
all_paper (suc n) [] g z = refl
all_paper (suc n) (p ∷ l) g z =
    let t = both (point_good p) (all point_good (take n l)) g in
    ap₂ (λ (a b : Bool). a && b) (paper_of_good p t.0) (all_paper n l t.1 z)

-- ---- sums

net_append : (a b : List Point) → net_of (a ++ b) ≡ net_of a +ℤ net_of b
unfolding net_of
net_append [] b = sym (+ℤ_idl (net_of b))
net_append (p ∷ a) b = ap (λ (z : ℤ). part_of p +ℤ z) (net_append a b) ∙ sym (+ℤ_assoc (part_of p) (net_of a) (net_of b))

pub net_turn : (l : List Point) (i : ℕ) (d : Point) → i < length l → net_of (take (i + 1) l) ≡ net_of (take i l) +ℤ part_of (get_or l i d)
unfolding net_of
net_turn l i d h =
    rw (add-one i, take-suc l i d) (net_append (take i l) (get_or l i d ∷ []) ∙ ap (λ (z : ℤ). net_of (take i l) +ℤ z) (+ℤ_idr (part_of (get_or l i d))))

-- points past the n-th that are zero add nothing
pub net_past : (n : ℕ) (l : List Point) → all is_zero_point (drop n l) ≡ true → net_of l ≡ net_of (take n l)
unfolding all net_of part_of
net_past n [] e = rw take-nil
net_past zero (p ∷ l) e =
    let t = both (is_zero_point p) (all is_zero_point l) e in
    let z = zero_fields p t.0 in
    rw (z.0, z.1, net_past 0 l t.1)
net_past (suc n) (p ∷ l) e = ap (λ (x : ℤ). part_of p +ℤ x) (net_past n l e)

pub net_small : (l : List Point) → all of_paper l ≡ true → nat_abs (net_of l) ≤ length l * 1228500
unfolding all net_of
net_small [] e = omega arith
net_small (p ∷ l) e =
    let f = both (of_paper p) (all of_paper l) e in
    omega (arith, abs_add (part_of p) (net_of l), part_small p f.0, net_small l f.1)
