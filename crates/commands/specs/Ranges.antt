-- Document 01, "Good values". What Update and Single share is said once.
use Rattle.std.specs.Prelude.{ℕ, Bool, ◌&&◌, ◌||◌, leb, eqb}

abbrev pub within : ℕ → ℕ → ℕ → Bool
within least x most = leb least x && leb x most

-- Width 0 or 10 to 500 µs; Current 0 to 127 mA
abbrev pub good_pulse : ℕ → ℕ → Bool
good_pulse width current = (eqb width 0 || within 10 width 500) && leb current 127

-- the number of listed channels, 1 to 8
abbrev pub good_count : ℕ → Bool
good_count count = within 1 count 8
