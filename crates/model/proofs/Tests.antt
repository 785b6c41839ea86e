-- Laws of rows of tests. Assumes nothing.
use Prim.Native.Nat.{ℕ, zero, suc}
use mathlib.Core.Bool.{Bool, true, false, ◌&&◌, true≢false}
use mathlib.Core.Path.{◌≡◌, refl, sym, ◌∙◌}
use mathlib.Core.List.{List, [], ◌∷◌}
use lib.ListN.{get_or}
use Rattle.commands.proofs.Tests.{both}
use Rattle.model.specs.Good.{all_hold}

infixl 35 ◌and◌
-- two tests that hold, as a row
pub ◌and◌ : {a b : Bool} → a ≡ true → b ≡ true → a && b ≡ true
◌and◌ {a = true} e f = f
◌and◌ {a = false} e f = e

-- four tests, the inner two the other way round
pub crossed : (a b c d : Bool) → a && b && (c && d) ≡ a && c && (b && d)
crossed true true true d = refl
crossed true true false d = refl
crossed true false true d = refl
crossed true false false d = refl
crossed false b c d = refl

-- a row of tests, which leans to the left
abbrev pub row_of : Bool → List Bool → Bool
row_of a [] = a
row_of a (b ∷ bs) = row_of (a && b) bs

-- each test of a row that holds, by its place
pub each : (a : Bool) (bs : List Bool) → row_of a bs ≡ true → (i : ℕ) → get_or (a ∷ bs) i true ≡ true
each a [] e zero = e
each a [] e (suc i) = refl
each a (b ∷ bs) e zero = (both a b (each (a && b) bs e 0)).0
each a (b ∷ bs) e (suc zero) = (both a b (each (a && b) bs e 0)).1
each a (b ∷ bs) e (suc (suc i)) = each (a && b) bs e (suc i)

-- the same of a list of tests
pub each_holds : (ts : List Bool) → all_hold ts ≡ true → (i : ℕ) → get_or ts i true ≡ true
each_holds [] e i = refl
each_holds (t ∷ ts) e zero = (both t (all_hold ts) e).0
each_holds (t ∷ ts) e (suc i) = each_holds ts (both t (all_hold ts) e).1 i

-- what follows whether a test holds or not
pub either_way : {P : Type 0} (b : Bool) → (b ≡ true → P) → (b ≡ false → P) → P
either_way true f g = f refl
either_way false f g = g refl

-- no test holds and does not hold
pub not_both : {P : Type 0} {b : Bool} → b ≡ true → b ≡ false → P
not_both e f = absurd (true≢false (sym e ∙ f))
