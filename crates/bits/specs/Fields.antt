-- Fields of a number, by sums of powers of two: what shifts and masks mean.
use Rattle.std.specs.Prelude.{ℕ, ◌+◌, ◌*◌, ◌/◌, ◌%◌, ◌^◌}

-- the `width` binary digits of w from place `low` up, as a number
abbrev pub field : ℕ → ℕ → ℕ → ℕ
field w low width = w / 2 ^ low % 2 ^ width

-- w moved up by `width` digits, of which 64 are kept, and the `width` lowest digits of v below it
unfoldable pub below : ℕ → ℕ → ℕ → ℕ
below w width v = w * 2 ^ width % 2 ^ 64 + v % 2 ^ width
