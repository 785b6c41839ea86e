-- Every number below a bound, one after the other.
use Rattle.std.specs.Prelude.{ℕ, zero, suc, max, Bool, true, false, ◌&&◌, ◌||◌, List, [], ◌∷◌, ◌++◌}

-- the test holds at every number below n; at some number below n
abbrev pub all_below : ℕ → (ℕ → Bool) → Bool
all_below zero f = true
all_below (suc n) f = all_below n f && f n

abbrev pub some_below : ℕ → (ℕ → Bool) → Bool
some_below zero f = false
some_below (suc n) f = some_below n f || f n

-- the largest of what f gives below n
abbrev pub most_below : ℕ → (ℕ → ℕ) → ℕ
most_below zero f = 0
most_below (suc n) f = max (most_below n f) (f n)

-- what f gives at 0, 1, .. n - 1, in this order: a row of one each; lists joined
abbrev pub row_below {ℓ} : {A : Type ℓ} → ℕ → (ℕ → A) → List A
row_below zero f = []
row_below (suc n) f = row_below n f ++ f n ∷ []

abbrev pub each_below {ℓ} : {A : Type ℓ} → ℕ → (ℕ → List A) → List A
each_below zero f = []
each_below (suc n) f = each_below n f ++ f n
