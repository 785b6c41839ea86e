-- The four bytes of a point (source 002, section 4.2, "Point definition"): 12 bits of duration, 10 of current, 10 reserved, from the highest bit on.
use Rattle.std.specs.Prelude.{ℕ, zero, suc, ◌+◌, ◌*◌, ◌/◌, ◌%◌, Bool, true, ◌&&◌, List, [], ◌∷◌, ◌++◌, eqb, get_or, drop}
use Rattle.charge.specs.declared.Point.{Point}

-- ---- writing

-- the 32 bits of a point as a number: 2 ^ 20 stands above the current and the reserved bits, 2 ^ 10 above the reserved ones, which are 0
abbrev pub word_of : Point → ℕ
word_of p = p.duration * 1048576 + p.code * 1024

-- the high byte first
unfoldable pub point_bytes : Point → List ℕ
point_bytes p = word_of p / 16777216 ∷ word_of p / 65536 % 256 ∷ word_of p / 256 % 256 ∷ word_of p % 256 ∷ []

unfoldable pub bytes_of : List Point → List ℕ
bytes_of [] = []
bytes_of (p ∷ points) = point_bytes p ++ bytes_of points

-- ---- reading

abbrev pub word_in : List ℕ → ℕ
word_in d = ((get_or d 0 0 * 256 + get_or d 1 0) * 256 + get_or d 2 0) * 256 + get_or d 3 0

unfoldable pub point_in : List ℕ → Point
point_in d = record { duration = word_in d / 1048576; code = word_in d / 1024 % 1024 }

abbrev pub no_point : Point
no_point = record { duration = 0; code = 0 }

-- so many places, of which the first, so many as number says, are points of the data and the others zero
unfoldable pub points_in : ℕ → ℕ → List ℕ → List Point
points_in zero number d = []
points_in (suc places) zero d = no_point ∷ points_in places zero d
points_in (suc places) (suc number) d = point_in d ∷ points_in places number (drop 4 d)

-- are the reserved bits of so many points 0?
unfoldable pub points_clear : ℕ → List ℕ → Bool
points_clear zero d = true
points_clear (suc number) d = eqb (word_in d % 1024) 0 && points_clear number (drop 4 d)
