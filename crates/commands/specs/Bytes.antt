-- What a slice of bytes holds: the code's types allow nothing else, and a list of numbers would.
use Rattle.std.specs.Prelude.{ℕ, ◌<◌, List, get_or}

abbrev pub AreBytes : List ℕ → Type 0
AreBytes s = (i : ℕ) → get_or s i 0 < 256
