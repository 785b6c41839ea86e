-- Laws of tests. Assumes nothing.
use Prim.Native.Nat.{ℕ, ◌<◌}
use mathlib.Core.Bool.{Bool, true, false, cond, ◌&&◌, false≢true}
use mathlib.Core.Path.{◌≡◌, refl}
use mathlib.Core.List.{List, [], ◌∷◌, ◌++◌}
use native.Mathlib.Omega.{arith}
use lib.Dec.{eqb}
use borrow.Author.Tests.{eqb-true, ne_eqb}
use Rattle.commands.specs.Answers.{Test, first_of}

-- both parts of a test that holds
pub both : (a b : Bool) → a && b ≡ true → (a ≡ true) × (b ≡ true)
both true b e = (refl, e)
both false b e = absurd (false≢true e)

-- each answer of these tests is a refusal
abbrev pub Refusing : List Test → Type 0
Refusing [] = Unit
Refusing (t ∷ ts) = (0 < t.answer) × Refusing ts

-- a test that did not refuse
pub passed : (b : Bool) (a x : ℕ) → 0 < a → cond b a x ≡ 0 → (b ≡ false) × (x ≡ 0)
passed true a x h e = absurd (omega arith)
passed false a x h e = (refl, e)

either : (b : Bool) (a x y z : ℕ) → 0 < a → x ≡ cond (eqb y 0) z y → cond b a x ≡ cond (eqb (cond b a y) 0) z (cond b a y)
either true a x y z h e = rw (ne_eqb a 0 (λ z. omega arith))
either false a x y z h e = e

-- later tests are asked where no earlier one refuses
pub first_append : (ts us : List Test) → Refusing ts → first_of (ts ++ us) ≡ cond (eqb (first_of ts) 0) (first_of us) (first_of ts)
first_append [] us r = refl
first_append (t ∷ ts) us r =
    either t.holds t.answer (first_of (ts ++ us)) (first_of ts) (first_of us) r.0 (first_append ts us r.1)

-- where none of them all refuses, none of either part does
pub first_none : (ts us : List Test) → Refusing ts → first_of (ts ++ us) ≡ 0 → (first_of ts ≡ 0) × (first_of us ≡ 0)
first_none [] us r e = (refl, e)
first_none (t ∷ ts) us r e =
    let p = passed t.holds t.answer (first_of (ts ++ us)) r.0 e in
    let q = first_none ts us r.1 p.1 in
    (rw p.0 q.0, q.1)

-- what is true of 0 and of each answer of a row of tests is true of the first's
abbrev all_pass : (ℕ → Bool) → List Test → Bool
all_pass f [] = true
all_pass f (t ∷ ts) = f t.answer && all_pass f ts

passes : (f : ℕ → Bool) (b : Bool) (a x : ℕ) → f a ≡ true → f x ≡ true → f (cond b a x) ≡ true
passes f true a x p q = p
passes f false a x p q = q

pub first_passes : (f : ℕ → Bool) (ts : List Test) → f 0 ≡ true → all_pass f ts ≡ true → f (first_of ts) ≡ true
first_passes f [] z h = z
first_passes f (t ∷ ts) z h =
    let p = both (f t.answer) (all_pass f ts) h in passes f t.holds t.answer (first_of ts) p.0 (first_passes f ts z p.1)

-- what holds of one of two things, by whether a number is k
pub one_of : {A : Type 0} (P : A → Type 0) (number k : ℕ) (x rest : A) → (number ≡ k → P x) → P rest → P (cond (eqb number k) x rest)
one_of P number k x rest p q = by (eqb number k) refl
  where
    by : (t : Bool) → eqb number k ≡ t → P (cond t x rest)
    by true e = p (eqb-true number k e)
    by false e = q
