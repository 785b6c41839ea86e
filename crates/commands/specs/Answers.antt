-- Tests in the order in which the papers name them, each with the answer that is given where it holds; which numbers a call answers.
use Rattle.std.specs.Prelude.{ℕ, Bool, true, false, cond, ◌||◌, ◌≡◌, List, [], ◌∷◌, map, eqb}

pub record Test : Type 0 where
  pub answer : ℕ
  pub holds : Bool

abbrev pub ◌when◌ : ℕ → Bool → Test
a when b = record { answer = a; holds = b }

infix 70 ◌when◌
-- the answer of the first test that holds, and 0 where none does
abbrev pub first_of : List Test → ℕ
first_of [] = 0
first_of (t ∷ ts) = cond t.holds t.answer (first_of ts)

-- ---- which numbers a call answers

-- a number is one of these
abbrev pub is_one_of : List ℕ → ℕ → Bool
is_one_of [] n = false
is_one_of (a ∷ rest) n = eqb n a || is_one_of rest n

-- what is answered to any input is one of these numbers, and to some inputs it is each of them in turn
pub record Gives {I : Type 0} (answer_to : I → ℕ) (numbers : List ℕ) : Type 0 where
  pub no_other : (x : I) → is_one_of numbers (answer_to x) ≡ true
  pub inputs : List I
  pub each : map answer_to inputs ≡ numbers
