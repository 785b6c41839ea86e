use Rattle.std.proofs.Common.{ℕ, ◌<◌, ◌||◌, List, IsTrue, arith}
use Rattle.std.specs.Char.{is_ascii_digit, is_ascii_uppercase}
use Rattle.std.specs.Str.{IsUtf8}
use Rattle.std.proofs.lemmas.List.Elements.{All-weaker}
use Rattle.std.proofs.lemmas.Str.{IsUtf8-from_ascii}
use Rattle.std.proofs.lemmas.Str.Ascii.{IsAscii-from_all}
use Rattle.cases.specs.Numbers.{IsNumber}

ascii : (c : ℕ) → IsTrue (is_ascii_digit c || is_ascii_uppercase c) → c < 128
ascii c t = grind arith

-- a number's word is text
pub number_text : (base : ℕ) (word : List ℕ) → IsNumber base word → IsUtf8 word
number_text base word n = IsUtf8-from_ascii word (IsAscii-from_all word (All-weaker _ _ ascii word n.capital))
