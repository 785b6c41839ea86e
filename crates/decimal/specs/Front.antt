-- A number in front of other bytes.
use Rattle.std.specs.Prelude.{ℕ, cond, List, [], ◌∷◌, leb, length, Option, Some, None}
use Rattle.std.proofs.Math.Option.{Option as Maybe, none, some}
use Rattle.decimal.specs.declared.Number.{Number}
use Rattle.decimal.specs.Decimal.{is_digit, number_in}

-- the digits in front, as far as they go
unfoldable pub front : List ℕ → List ℕ
front [] = []
front (b ∷ s) = cond (is_digit b) (b ∷ front s) []

-- of 32 bits
abbrev pub largest : ℕ
largest = 4294967295

-- a value, if it is small enough
unfoldable pub small : ℕ → Option ℕ
small v = cond (leb v largest) (Some v) None

abbrev pub as_number : Maybe ℕ → ℕ → Option Number
as_number none n = None
as_number (some v) n = cond (leb v largest) (Some (record { value = v; size = n })) None

-- the number of 32 bits that the digits in front are the decimal of, and how many they are; none where they are no such number's
unfoldable pub number_in_front : List ℕ → Option Number
number_in_front s = as_number (number_in (front s)) (length (front s))
