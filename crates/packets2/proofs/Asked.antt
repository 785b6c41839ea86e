-- What the one reader of packets asks of ScienceMode2 beside its laws. Assumes nothing.
use mathlib.Core.Path.{◌≡◌}
use mathlib.Core.Bool.{true, false}
use mathlib.Core.List.{List, [], ◌∷◌}
use Prim.Native.Nat.{ℕ, ◌<◌, ◌≤◌}
use native.Mathlib.Omega.{arith}
use lib.Dec.{eqb}
use lib.ListN.{length}
use Rattle.commands.proofs.Tests.{both}
use Rattle.stuffing.specs.Stuffing.{stuffing_byte}
use Rattle.packets2.specs.Rehastim2.{check_right, length_right, size_good}
use Rattle.packets2.proofs.Lawful.{size_range}

-- a header of four bytes stands there
pub behind : (body : List ℕ) → check_right body ≡ true → length_right body ≡ true → 4 ≤ length body
unfolding length_right
behind [] p q = absurd (let z : ◌≡◌ {A = ℕ} 0 1 = cc in omega arith)
behind (a ∷ []) p q = absurd (let z : ◌≡◌ {A = ℕ} 0 1 = cc in omega arith)
behind (a ∷ b ∷ []) p q = absurd (let z : ◌≡◌ {A = ℕ} 0 1 = cc in omega arith)
behind (a ∷ b ∷ d ∷ []) p q = absurd (let e = (both (eqb d stuffing_byte) false q).1 in let z : ◌≡◌ {A = ℕ} 0 1 = cc in omega arith)
behind (a ∷ b ∷ d ∷ e ∷ c) p q = omega arith

pub few : 62 < 65536
few = omega arith

pub two : (n : ℕ) → size_good n ≡ true → 2 ≤ n
two n e = (size_range n e).0
