-- Points there and back: a good point is read from its four bytes as it was, and four bytes whose reserved bits are 0 are written again from the
-- point that is read; and so are points in a row. Assumes nothing.
use Prim.Native.Nat.{ℕ, zero, suc, ◌+◌, ◌*◌, ◌/◌, ◌%◌, ◌≤◌, ◌<◌}
use mathlib.Core.Path.{◌≡◌, refl, ap, ap₂, ◌∙◌}
use mathlib.Core.Bool.{true}
use mathlib.Core.List.{List, [], ◌∷◌, ◌++◌}
use native.Mathlib.Omega.{arith}
use lib.Dec.{eqb}
use lib.ListN.{length, get_or, take, drop, length-drop}
use lib.Seq.{get_or-drop}
use borrow.Author.Tests.{eqb-true, eq-eqb}
use Rattle.commands.proofs.Tests.{both}
use Rattle.charge.specs.declared.Point.{Point}
use Rattle.charge.proofs.Points.{paper_of_good, paper_code}
use Rattle.charge.specs.Charge.{point_good, all, is_zero_point}
use Rattle.commands3.specs.Points.{word_of, point_bytes, bytes_of, word_in, point_in, no_point, points_in, points_clear}
use Rattle.commands3.proofs.Fronts.{front_again}

-- a number's four bytes, the high one first
abbrev word_bytes : ℕ → List ℕ
word_bytes w = w / 16777216 ∷ w / 65536 % 256 ∷ w / 256 % 256 ∷ w % 256 ∷ []

-- ---- writing, then reading

code_below : (p : Point) → point_good p ≡ true → p.code < 1024
code_below p g = omega (arith, paper_code p (paper_of_good p g))

module _ (p : Point) (d : List ℕ) where
  word_back : word_in (point_bytes p ++ d) ≡ word_of p
  unfolding point_bytes
  word_back = omega arith

  -- THEOREM. A good point is read from its four bytes as it was.
  pub reads_point : point_good p ≡ true → point_in (point_bytes p ++ d) ≡ p
  unfolding point_in
  reads_point g =
      let duration : word_of p / 1048576 ≡ p.duration = omega (arith, code_below p g) in
      let code : word_of p / 1024 % 1024 ≡ p.code = omega (arith, code_below p g) in
      rw (word_back, duration, code)

  -- THEOREM. The reserved bits of a point's four bytes are 0.
  pub clear_point : word_in (point_bytes p ++ d) % 1024 ≡ 0
  clear_point = rw word_back (omega arith)

zero_point : (p : Point) → is_zero_point p ≡ true → no_point ≡ p
unfolding is_zero_point
zero_point p z =
    let zeros = both (eqb p.duration 0) (eqb p.code 0) z in
    rw (eqb-true p.duration 0 zeros.0, eqb-true p.code 0 zeros.1)

-- THEOREM. Where no point is read, all places are zero.
pub reads_zeros : (l : List Point) (d : List ℕ) → all is_zero_point l ≡ true → points_in (length l) 0 d ≡ l
unfolding all points_in
reads_zeros [] d z = refl
reads_zeros (p ∷ l) d z =
    let zeros = both (is_zero_point p) (all is_zero_point l) z in
    ap₂ (λ (q : Point) (m : List Point). q ∷ m) (zero_point p zeros.0) (reads_zeros l d zeros.1)

-- THEOREM. Good points with zeros past them are read from their bytes as they were.
pub reads_points : (n : ℕ) (l : List Point) → n ≤ length l → all point_good (take n l) ≡ true → all is_zero_point (drop n l) ≡ true
    → points_in (length l) n (bytes_of (take n l)) ≡ l
unfolding all point_bytes bytes_of points_in
reads_points zero l h g z = reads_zeros l [] z
reads_points (suc n) [] h g z = absurd (omega arith)
reads_points (suc n) (p ∷ l) h g z =
    let good = both (point_good p) (all point_good (take n l)) g in
    ap₂ (λ (q : Point) (m : List Point). q ∷ m) (reads_point p _ good.0) (reads_points n l (omega arith) good.1 z)

-- THEOREM. The reserved bits of points' bytes are 0.
pub clear_points : (l : List Point) → points_clear (length l) (bytes_of l) ≡ true
unfolding point_bytes bytes_of points_clear
clear_points [] = refl
clear_points (p ∷ l) = rw (eq-eqb _ 0 (clear_point p (bytes_of l))) (clear_points l)

-- THEOREM. A point has four bytes.
pub length_bytes : (l : List Point) → length (bytes_of l) ≡ length l * 4
unfolding point_bytes bytes_of
length_bytes [] = refl
length_bytes (p ∷ l) = omega (arith, length_bytes l)

-- ---- reading, then writing

-- THEOREM. There are as many points as places.
pub length_points : (places n : ℕ) (d : List ℕ) → length (points_in places n d) ≡ places
unfolding points_in
length_points zero n d = refl
length_points (suc places) zero d = ap suc (length_points places 0 d)
length_points (suc places) (suc n) d = ap suc (length_points places n (drop 4 d))

word_again : (w : ℕ) → w % 1024 ≡ 0 → w / 1048576 * 1048576 + w / 1024 % 1024 * 1024 ≡ w
word_again w clear = omega arith

bytes_again : (a b c e : ℕ) → a < 256 → b < 256 → c < 256 → e < 256 → word_bytes (((a * 256 + b) * 256 + c) * 256 + e) ≡ a ∷ b ∷ c ∷ e ∷ []
bytes_again a b c e ha hb hc he =
    let w = ((a * 256 + b) * 256 + c) * 256 + e in
    let first : w / 16777216 ≡ a = omega arith in
    let second : w / 65536 % 256 ≡ b = omega arith in
    let third : w / 256 % 256 ≡ c = omega arith in
    let fourth : w % 256 ≡ e = omega arith in
    rw (first, second, third, fourth)

module _ (d : List ℕ) (byte : (i : ℕ) → get_or d i 0 < 256) where
  -- THEOREM. Four bytes whose reserved bits are 0 are written again from the point that is read.
  pub writes_point : word_in d % 1024 ≡ 0 → point_bytes (point_in d) ≡ get_or d 0 0 ∷ get_or d 1 0 ∷ get_or d 2 0 ∷ get_or d 3 0 ∷ []
  unfolding point_bytes point_in
  writes_point clear = ap word_bytes (word_again (word_in d) clear) ∙ bytes_again _ _ _ _ (byte 0) (byte 1) (byte 2) (byte 3)

-- THEOREM. Bytes of points whose reserved bits are 0 are written again from the points that are read.
pub writes_points : (places n : ℕ) (d : List ℕ) → ((i : ℕ) → get_or d i 0 < 256) → n ≤ places → length d ≡ n * 4 → points_clear n d ≡ true
    → bytes_of (take n (points_in places n d)) ≡ d
unfolding bytes_of points_in points_clear
writes_points places zero [] byte h e clear = refl
writes_points places zero (a ∷ d) byte h e clear = absurd (omega arith)
writes_points zero (suc n) d byte h e clear = absurd (omega arith)
writes_points (suc places) (suc n) d byte h e clear =
    let bits = both (eqb (word_in d % 1024) 0) (points_clear n (drop 4 d)) clear in
    let first = writes_point d byte (eqb-true (word_in d % 1024) 0 bits.0) in
    let others =
    writes_points places n (drop 4 d) (λ i. rw (get_or-drop 4 d i 0) (byte (4 + i))) (omega arith) (omega (arith, length-drop 4 d)) bits.1 in
    rw (first, others) (front_again d 4 (omega arith))
