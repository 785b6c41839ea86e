-- Tests, maxima and counts over the numbers below a bound, and the same over a list, first one first. Assumes nothing.
use Prim.Native.Nat.{ℕ, zero, suc, ◌+◌, max}
use mathlib.Core.Bool.{Bool, true, false, cond, ◌&&◌, ◌||◌}
use mathlib.Core.Path.{◌≡◌, refl, sym, ◌∙◌}
use mathlib.Core.List.{List, [], ◌∷◌, map}
use native.Mathlib.Omega.{arith}
use lib.ListN.{length, get_or}
use Rattle.std.specs.List.{list_all, list_any, enumerate_from, filter, fold, reduce, range_with_len}
use Rattle.std.specs.Option.{unwrap_or}
use Rattle.std.proofs.Math.Bool.{and-true, and_assoc, or-false, or_assoc}
use Rattle.model.specs.Below.{all_below, some_below, most_below}
use Rattle.model.specs.Channels.{in_set, many}
use Rattle.model.proofs.Tests.{crossed}

-- ---- the first number first

first_and : (a b c : Bool) → a && (b && c) ≡ a && b && c
first_and true b c = refl
first_and false b c = refl

all_front : (n : ℕ) (f : ℕ → Bool) → all_below (suc n) f ≡ f 0 && all_below n (λ i. f (suc i))
all_front zero f = on (f 0) where
  on : (b : Bool) → true && b ≡ b && true
  on true = refl
  on false = refl
all_front (suc n) f = rw (all_front n f) (sym (first_and (f 0) (all_below n (λ i. f (suc i))) (f (suc n))))

some_front : (n : ℕ) (f : ℕ → Bool) → some_below (suc n) f ≡ f 0 || some_below n (λ i. f (suc i))
some_front zero f = on (f 0) where
  on : (b : Bool) → false || b ≡ b || false
  on true = refl
  on false = refl
some_front (suc n) f = rw (some_front n f) (on (f 0) (some_below n (λ i. f (suc i))) (f (suc n))) where
  on : (a b c : Bool) → a || b || c ≡ a || (b || c)
  on true b c = refl
  on false b c = refl

most_front : (n : ℕ) (f : ℕ → ℕ) → most_below (suc n) f ≡ max (f 0) (most_below n (λ i. f (suc i)))
most_front zero f = omega arith
most_front (suc n) f = rw (most_front n f) (omega arith)

-- ---- over a list, with the places counted from n on

module _ {A : Type 0} (d : A) (test : ℕ × A → Bool) where
  -- f gives at each place what the test gives there
  abbrev Follows : (ℕ → Bool) → ℕ → List A → Type 0
  Follows f n xs = (i : ℕ) → f i ≡ test (n + i, get_or xs i d)

  here : (f : ℕ → Bool) (n : ℕ) (x : A) (xs : List A) → Follows f n (x ∷ xs) → test (n, x) ≡ f 0
  here f n x xs h = let e : n + 0 ≡ n = omega arith in sym (rw e at (h 0))

  later : (f : ℕ → Bool) (n : ℕ) (x : A) (xs : List A) → Follows f n (x ∷ xs) → Follows (λ i. f (suc i)) (n + 1) xs
  later f n x xs h i = let e : n + suc i ≡ n + 1 + i = omega arith in rw e at (h (suc i))

  all_from : (f : ℕ → Bool) (n : ℕ) (xs : List A) → Follows f n xs → list_all test (enumerate_from n xs) ≡ all_below (length xs) f
  all_from f n [] h = refl
  all_from f n (x ∷ xs) h = rw (all_front (length xs) f, here f n x xs h, all_from (λ i. f (suc i)) (n + 1) xs (later f n x xs h))

  some_from : (f : ℕ → Bool) (n : ℕ) (xs : List A) → Follows f n xs → list_any test (enumerate_from n xs) ≡ some_below (length xs) f
  some_from f n [] h = refl
  some_from f n (x ∷ xs) h = rw (some_front (length xs) f, here f n x xs h, some_from (λ i. f (suc i)) (n + 1) xs (later f n x xs h))

  -- the same from the first place on, over a list of this length
  module _ (f : ℕ → Bool) (xs : List A) (k : ℕ) (l : length xs ≡ k) (h : (i : ℕ) → f i ≡ test (i, get_or xs i d)) where
    starts : Follows f 0 xs
    starts i = let e : 0 + i ≡ i = omega arith in rw e (h i)

    pub all_placed : list_all test (enumerate_from 0 xs) ≡ all_below k f
    all_placed = rw (← l) (all_from f 0 xs starts)

    pub some_placed : list_any test (enumerate_from 0 xs) ≡ some_below k f
    some_placed = rw (← l) (some_from f 0 xs starts)

-- without the places
pub all_items : {A : Type 0} (d : A) (test : A → Bool) (xs : List A) (k : ℕ) → length xs ≡ k
    → list_all test xs ≡ all_below k (λ i. test (get_or xs i d))
all_items {A} d test xs k l = rw (← l) (on xs) where
  on : (xs : List A) → list_all test xs ≡ all_below (length xs) (λ i. test (get_or xs i d))
  on [] = refl
  on (x ∷ xs) = rw (all_front (length xs) (λ i. test (get_or (x ∷ xs) i d)), on xs)

-- tests joined from the first element on, without leaving early
pub fold_all : {A : Type 0} (test : A → Bool) (xs : List A) → fold (λ b x. b && test x) true xs ≡ list_all test xs
fold_all {A} test xs = on true xs where
  on : (b : Bool) (xs : List A) → fold (λ b x. b && test x) b xs ≡ b && list_all test xs
  on b [] = sym (and-true b)
  on b (x ∷ xs) = on (b && test x) xs ∙ and_assoc b (test x) (list_all test xs)

pub fold_some : {A : Type 0} (test : A → Bool) (xs : List A) → fold (λ b x. b || test x) false xs ≡ list_any test xs
fold_some {A} test xs = on false xs where
  on : (b : Bool) (xs : List A) → fold (λ b x. b || test x) b xs ≡ b || list_any test xs
  on b [] = sym (or-false b)
  on b (x ∷ xs) = on (b || test x) xs ∙ or_assoc b (test x) (list_any test xs)

-- two tests at each number: the one at all, and the other at all
pub all_both : (n : ℕ) (f g : ℕ → Bool) → all_below n (λ i. f i && g i) ≡ all_below n f && all_below n g
all_both zero f g = refl
all_both (suc n) f g = rw (all_both n f g) (crossed (all_below n f) (all_below n g) (f n) (g n))

-- the largest of what v gives at the elements, and of a first number
most_fold : {A : Type 0} (d : A) (v : A → ℕ) (a : ℕ) (xs : List A)
    → fold max a (map v xs) ≡ max a (most_below (length xs) (λ i. v (get_or xs i d)))
most_fold d v a [] = omega arith
most_fold d v a (x ∷ xs) =
    rw (most_front (length xs) (λ i. v (get_or (x ∷ xs) i d)), most_fold d v (max a (v x)) xs) (omega arith)

pub most_items : {A : Type 0} (d : A) (v : A → ℕ) (xs : List A) (k : ℕ) → length xs ≡ k
    → unwrap_or (reduce max (map v xs)) 0 ≡ most_below k (λ i. v (get_or xs i d))
most_items {A} d v xs k l = rw (← l) (on xs) where
  on : (xs : List A) → unwrap_or (reduce max (map v xs)) 0 ≡ most_below (length xs) (λ i. v (get_or xs i d))
  on [] = refl
  on (x ∷ xs) = rw (most_front (length xs) (λ i. v (get_or (x ∷ xs) i d))) (most_fold d v (v x) xs)

-- a test at some number of a range
pub some_counted : (n : ℕ) (f : ℕ → Bool) → list_any f (range_with_len 0 n) ≡ some_below n f
some_counted n f = on n 0 f (λ i. let e : 0 + i ≡ i = omega arith in rw e) where
  on : (n a : ℕ) (g : ℕ → Bool) → ((i : ℕ) → g i ≡ f (a + i)) → list_any f (range_with_len a n) ≡ some_below n g
  on zero a g h = refl
  on (suc n) a g h =
      let first : f a ≡ g 0 = let e : a + 0 ≡ a = omega arith in sym (rw e at (h 0)) in
      rw (some_front n g, first, on n (a + 1) (λ i. g (suc i)) (λ i. let e : a + suc i ≡ a + 1 + i = omega arith in rw e at (h (suc i))))

-- how many of n channels from `first` on are listed, the first one first
many_front : (set first n : ℕ) → many set first (suc n) ≡ cond (in_set set first) 1 0 + many set (suc first) n
unfolding many
many_front set first zero = let e : first + 0 ≡ first = omega arith in rw e (omega arith)
many_front set first (suc n) =
    let e : suc first + n ≡ first + suc n = omega arith in rw (many_front set first n, e) (omega arith)

one_more : (b : Bool) (x : ℕ) (xs : List ℕ) → length (cond b (x ∷ xs) xs) ≡ cond b 1 0 + length xs
one_more true x xs = omega arith
one_more false x xs = omega arith

pub many_listed : (set first n : ℕ) → length (filter (in_set set) (range_with_len first n)) ≡ many set first n
unfolding many
many_listed set first zero = refl
many_listed set first (suc n) =
    let e : first + 1 ≡ suc first = omega arith in
    one_more (in_set set first) first _ ∙ rw (e, many_listed set (suc first) n) (sym (many_front set first n))
