-- Request 03: "numbers are decimal without leading zeros".
use Rattle.std.specs.Prelude.{ℕ, zero, suc, ◌+◌, ◌-◌, ◌*◌, ◌/◌, ◌%◌, Bool, true, false, cond, not, ◌&&◌, List, [], ◌∷◌, ◌++◌, leb, ltb, eqb}
use Rattle.std.proofs.Math.Option.{Option, none, some}

-- the byte of a digit, 0 to 9
abbrev pub digit : ℕ → ℕ
digit d = 48 + d

-- ---- written

-- Below 10 a number's text is its digit. Else it is the text of the number without its last digit, and then that digit. A number that is
-- below the fuel has its text.
unfoldable pub digits_within : ℕ → ℕ → List ℕ
digits_within zero n = []
digits_within (suc fuel) n = cond (ltb n 10) (digit n ∷ []) (digits_within fuel (n / 10) ++ digit (n % 10) ∷ [])

unfoldable pub digits : ℕ → List ℕ
digits n = digits_within (suc n) n

-- ---- read

abbrev pub is_digit : ℕ → Bool
is_digit b = leb (digit 0) b && leb b (digit 9)

unfoldable pub all_digits : List ℕ → Bool
all_digits [] = true
all_digits (b ∷ t) = is_digit b && all_digits t

-- there is a digit, and the first is 0 only if it stands alone
abbrev pub no_leading_zero : List ℕ → Bool
no_leading_zero [] = false
no_leading_zero (b ∷ []) = true
no_leading_zero (b ∷ c ∷ t) = not (eqb b (digit 0))

-- the number that digits stand for, with a number before them
unfoldable pub value_from : ℕ → List ℕ → ℕ
value_from a [] = a
value_from a (b ∷ t) = value_from (a * 10 + (b - digit 0)) t

-- the number that a text is the decimal of, if it is one
unfoldable pub number_in : List ℕ → Option ℕ
number_in t = cond (all_digits t && no_leading_zero t) (some (value_from 0 t)) none
