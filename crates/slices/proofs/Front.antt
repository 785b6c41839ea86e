-- Bytes by value with zeros behind them: their front. Assumes nothing.
use mathlib.Core.Path.{◌≡◌, refl, ap}
use mathlib.Core.List.{List, [], ◌∷◌, ◌++◌}
use Prim.Native.Nat.{ℕ, zero, suc, ◌≤◌}
use native.Mathlib.Omega.{arith}
use lib.ListN.{length, take}

pub front : (d z : List ℕ) (k : ℕ) → length d ≤ k → take (length d) (take k (d ++ z)) ≡ d
front [] z k h = refl
front (x ∷ d) z zero h = absurd (omega arith)
front (x ∷ d) z (suc k) h = ap (λ (l : List ℕ). x ∷ l) (front d z k (omega arith))
