-- Bytes compared: whether all are the same, and whether some stand in front of others.
use Rattle.std.specs.Prelude.{ℕ, Bool, true, false, ◌&&◌, List, [], ◌∷◌, eqb}

unfoldable pub same : List ℕ → List ℕ → Bool
same [] [] = true
same [] (b ∷ t) = false
same (a ∷ s) [] = false
same (a ∷ s) (b ∷ t) = eqb a b && same s t

-- whether s begins with these bytes
unfoldable pub starts : List ℕ → List ℕ → Bool
starts [] s = true
starts (b ∷ bytes) [] = false
starts (b ∷ bytes) (x ∷ s) = eqb x b && starts bytes s
