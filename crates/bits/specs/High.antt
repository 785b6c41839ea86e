-- Source 003, 5.2: the starting byte of a packet has bit 7 set, every other byte has it clear.
use Rattle.std.specs.Prelude.{ℕ, suc, Bool, cond, List, [], ◌∷◌, leb}

-- bit 7 of a byte is set
abbrev pub high : ℕ → Bool
high b = leb 128 b

-- the place of the first high byte of a list, or its length
unfoldable pub first_high : List ℕ → ℕ
first_high [] = 0
first_high (b ∷ s) = cond (high b) 0 (suc (first_high s))
