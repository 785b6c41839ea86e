-- Laws of tests and rows over every number below a bound. Assumes nothing.
use Prim.Native.Nat.{ℕ, zero, suc, ◌<◌}
use mathlib.Core.Bool.{Bool, true, false, ◌||◌, false≢true}
use mathlib.Core.Path.{◌≡◌, refl, sym, ◌∙◌}
use mathlib.Core.List.{[], ◌∷◌}
use native.Mathlib.Omega.{arith}
use lib.Dec.{eqb}
use lib.ListN.{length, get_or, length-append, get_or-append}
use lib.Seq.{get_or_at}
use borrow.Author.Tests.{eqb-true, eqb-false}
use Rattle.commands.proofs.Tests.{both}
use Rattle.model.specs.Below.{all_below, some_below, most_below, row_below}
use Rattle.model.proofs.Tests.{◌and◌, either_way, not_both}

-- a fact of each number below n, and of n
up_to : {P : ℕ → Type 0} (n : ℕ) → ((i : ℕ) → i < n → P i) → P n → (i : ℕ) → i < suc n → P i
up_to {P} n f e i h =
    either_way (eqb i n) (λ t. rw (eqb-true i n t) e) (λ t. let d : i ≡ n → ⊥ = eqb-false i n t in f i (omega arith))

-- a test that holds at each number, and one that holds at none
pub each_below_lem : (n : ℕ) (f : ℕ → Bool) → all_below n f ≡ true → (i : ℕ) → i < n → f i ≡ true
each_below_lem zero f e i h = absurd (omega arith)
each_below_lem (suc n) f e i h = let p = both (all_below n f) (f n) e in up_to n (each_below_lem n f p.0) p.1 i h

pub all_below_lem : (n : ℕ) (f : ℕ → Bool) → ((i : ℕ) → i < n → f i ≡ true) → all_below n f ≡ true
all_below_lem zero f h = refl
all_below_lem (suc n) f h = all_below_lem n f (λ i l. h i (omega arith)) and h n (omega arith)

-- neither part of a test that fails
neither : (a b : Bool) → a || b ≡ false → (a ≡ false) × (b ≡ false)
neither true b e = absurd (false≢true (sym e))
neither false b e = (refl, e)

pub none_below : (n : ℕ) (f : ℕ → Bool) → some_below n f ≡ false → (i : ℕ) → i < n → f i ≡ false
none_below zero f e i h = absurd (omega arith)
none_below (suc n) f e i h = let p = neither (some_below n f) (f n) e in up_to n (none_below n f p.0) p.1 i h

pub no_below : (n : ℕ) (f : ℕ → Bool) → ((i : ℕ) → i < n → f i ≡ false) → some_below n f ≡ false
no_below zero f h = refl
no_below (suc n) f h = rw (no_below n f (λ i l. h i (omega arith)), h n (omega arith))

-- a number at which it holds
pub some_below_lem : (n : ℕ) (f : ℕ → Bool) → some_below n f ≡ true → (i : ℕ) × (i < n) × (f i ≡ true)
some_below_lem zero f e = absurd (false≢true e)
some_below_lem (suc n) f e =
    either_way (some_below n f) (λ t. let (i, l, h) = some_below_lem n f t in (i, omega arith, h)) (λ t. (n, omega arith, rw t at e))

-- it holds below n where it holds at a number below n
pub found_below : (n : ℕ) (f : ℕ → Bool) (i : ℕ) → i < n → f i ≡ true → some_below n f ≡ true
found_below n f i h e = either_way (some_below n f) (λ t. t) (λ t. not_both e (none_below n f t i h))

-- the largest of zeros
pub most_zero : (n : ℕ) (f : ℕ → ℕ) → ((i : ℕ) → i < n → f i ≡ 0) → most_below n f ≡ 0
most_zero zero f h = refl
most_zero (suc n) f h = rw (most_zero n f (λ i l. h i (omega arith)), h n (omega arith))

-- a row's length, and what stands in it
pub row_length : {A : Type 0} (n : ℕ) (f : ℕ → A) → length (row_below n f) ≡ n
row_length zero f = refl
row_length (suc n) f = simp length-append (omega (arith, row_length n f))

pub row_at : {A : Type 0} (n : ℕ) (f : ℕ → A) (d : A) (i : ℕ) → i < n → get_or (row_below n f) i d ≡ f i
row_at zero f d i h = absurd (omega arith)
row_at (suc n) f d i h =
    up_to {P = λ i. get_or (row_below (suc n) f) i d ≡ f i} n
    (λ i h.
    let l : i < length (row_below n f) = omega (arith, row_length n f) in
    get_or-append (row_below n f) (f n ∷ []) d i l ∙ row_at n f d i h)
    (get_or_at (row_below n f) (f n) [] d n (row_length n f)) i h
