-- Results of acknowledgements (source 000, section 5.1): a signed byte, 0 for no error, and below it the error codes -1 to -8.
use Rattle.std.specs.Prelude.{ℕ, ◌-◌, Bool, false, cond, eqb, leb, ltb, ℤ, pos, negsuc}

unfoldable pub no_error : ℤ → Bool
no_error (pos n) = eqb n 0
no_error (negsuc n) = false

-- 0 to -8; negsuc n is -(n + 1)
unfoldable pub good_result : ℤ → Bool
good_result (pos n) = eqb n 0
good_result (negsuc n) = leb n 7

-- a number below zero stands in a byte as 256 more than it is
unfoldable pub byte_of : ℤ → ℕ
byte_of (pos n) = n
byte_of (negsuc n) = 255 - n

-- so a byte from 128 on stands for 256 less than it is
unfoldable pub signed_of : ℕ → ℤ
signed_of b = cond (ltb b 128) (pos b) (negsuc (255 - b))
