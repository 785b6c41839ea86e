-- The pairs that request 12 names: F0 becomes 81 A5, 0F becomes 81 5A and 81 becomes 81 D4. Assumes nothing.
use mathlib.Core.Path.{◌≡◌, refl}
use mathlib.Core.List.{[], ◌∷◌}
use Rattle.stuffing.specs.Stuffing.{special, stuffed_byte, stuffed}

three_pairs : stuffed (240 ∷ 15 ∷ 129 ∷ []) ≡ 129 ∷ 165 ∷ 129 ∷ 90 ∷ 129 ∷ 212 ∷ []
unfolding special stuffed_byte stuffed
three_pairs = refl
