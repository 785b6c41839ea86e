-- What is promised of net charges (request 13).
use Rattle.std.specs.Prelude.{◌≤◌, true, ◌≡◌, List, ◌∷◌, nat_abs, length}
use Rattle.charge.specs.declared.Point.{Point}
use Rattle.charge.specs.Charge.{of_paper, all, net_of}

-- points of the paper's ranges, sixteen at most, have a net charge of at most 19,656,000 in size: it fits 32 bits
abbrev pub Bounded : Type 0
Bounded = (points : List Point) → all of_paper points ≡ true → length points ≤ 16 → nat_abs (net_of points) ≤ 19656000

-- the same points in another order
pub data Reordered : List Point → List Point → Type 0 where
  same : (l : List Point) → Reordered l l
  swapped : (p q : Point) (l : List Point) → Reordered (p ∷ q ∷ l) (q ∷ p ∷ l)
  behind : (p : Point) (l m : List Point) → Reordered l m → Reordered (p ∷ l) (p ∷ m)
  onward : (l m n : List Point) → Reordered l m → Reordered m n → Reordered l n

abbrev pub OrderFree : Type 0
OrderFree = (l m : List Point) → Reordered l m → net_of l ≡ net_of m
