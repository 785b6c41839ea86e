-- The numbers of a script's line.
use Rattle.std.specs.Prelude.{ℕ, ◌^◌, ◌<◌, ◌||◌, List, All, IsTrue}
use Rattle.std.specs.Char.{is_ascii_digit, is_ascii_uppercase}
use Rattle.std.specs.Str.Parse.{IsNumeral, digits_value}
use Rattle.cases.specs.declared.numbers.Radix.{Radix}
use Rattle.cases.specs.declared.numbers.Radix.TheVariants.{Decimal, Hexadecimal}

abbrev pub base_of : Radix → ℕ
base_of Decimal = 10
base_of Hexadecimal = 16

-- a word of digits alone, those from ten on in capital letters, and its number has 32 bits
pub record IsNumber (base : ℕ) (word : List ℕ) : Type 0 where
  pub capital : All (λ c. IsTrue (is_ascii_digit c || is_ascii_uppercase c)) word
  pub numeral : IsNumeral base word
  pub fits : digits_value base word < 2 ^ 32
