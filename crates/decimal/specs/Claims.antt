-- What is promised of numbers as text. Proved in `proofs/Theorems`.
use Rattle.std.specs.Prelude.{ℕ, ◌≡◌, List}
use Rattle.std.proofs.Math.Option.{some}
use Rattle.decimal.specs.Decimal.{digits, number_in}

-- what was written reads as the number
abbrev pub ReadsWritten : Type 0
ReadsWritten = (n : ℕ) → number_in (digits n) ≡ some n

-- what reads as a number is the number's text: no other has a leading zero or any other byte
abbrev pub WritesRead : Type 0
WritesRead = (t : List ℕ) (n : ℕ) → number_in t ≡ some n → digits n ≡ t
