-- Laws of bytes compared. Assumes nothing.
use Prim.Native.Nat.{ℕ}
use Rattle.std.specs.Cmp.Lexicographic.{pointwise}
use Rattle.std.specs.List.{starts_with}
use mathlib.Core.Bool.{Bool, true, false, ◌&&◌, false≢true}
use mathlib.Core.Path.{◌≡◌, refl, sym, ap, ap₂, ◌∙◌}
use mathlib.Core.List.{List, [], ◌∷◌, ◌++◌}
use borrow.Author.Tests.{eq-eqb, ne_eqb, eqb-true}
use lib.Dec.{eqb}
use Rattle.std.proofs.lemmas.Bool.{eqb-false}
use lib.ListN.{length, take, drop}
use Rattle.commands.proofs.Tests.{both}
use Rattle.slices.specs.Starts.{same, starts}

-- ---- all the same

pub same_self : (s : List ℕ) → same s s ≡ true
unfolding same
same_self [] = refl
same_self (b ∷ s) = rw (eq-eqb b b refl, same_self s)

pub same_equal : (s t : List ℕ) → same s t ≡ true → s ≡ t
unfolding same
same_equal [] [] e = refl
same_equal [] (b ∷ t) e = absurd (false≢true e)
same_equal (a ∷ s) [] e = absurd (false≢true e)
same_equal (a ∷ s) (b ∷ t) e =
    let p = both (eqb a b) (same s t) e in ap₂ (λ (x : ℕ) (l : List ℕ). x ∷ l) (eqb-true a b p.0) (same_equal s t p.1)

-- ---- bytes in front

pub starts_front : (t rest : List ℕ) → starts t (t ++ rest) ≡ true
unfolding starts
starts_front [] rest = refl
starts_front (b ∷ t) rest = rw (eq-eqb b b refl, starts_front t rest)

pub front_starts : (t s : List ℕ) → starts t s ≡ true → s ≡ t ++ drop (length t) s
unfolding starts
front_starts [] s e = refl
front_starts (b ∷ t) [] e = absurd (false≢true e)
front_starts (b ∷ t) (x ∷ s) e =
    let p = both (eqb x b) (starts t s) e in rw (eqb-true x b p.0) (ap (λ (l : List ℕ). b ∷ l) (front_starts t s p.1))

-- as the library says it
either_way : (a b : ℕ) → eqb a b ≡ eqb b a
either_way a b = by (eqb b a) refl
  where
    by : (t : Bool) → eqb b a ≡ t → eqb a b ≡ eqb b a
    by true e = rw (eqb-true b a e, eq-eqb a a refl)
    by false e = ne_eqb a b (λ q. eqb-false b a e (sym q)) ∙ sym e

pub starts_as : (t s : List ℕ) → starts_with eqb s t ≡ starts t s
unfolding starts
starts_as [] s = refl
starts_as (b ∷ t) [] = refl
starts_as (b ∷ t) (x ∷ s) = ap₂ (λ (p q : Bool). p && q) (either_way b x) (starts_as t s)

pub strips_as : (t s : List ℕ) → pointwise eqb (take (length t) s) t ≡ starts t s
unfolding starts
strips_as [] s = refl
strips_as (b ∷ t) [] = refl
strips_as (b ∷ t) (x ∷ s) = ap (λ (q : Bool). eqb x b && q) (strips_as t s)
