-- Laws of the bytes not in use: each is zero, and they are so many zeros. Assumes nothing.
use Prim.Native.Nat.{ℕ, zero, suc}
use mathlib.Core.Bool.{true}
use mathlib.Core.Path.{◌≡◌, refl, ap}
use mathlib.Core.List.{List, [], ◌∷◌}
use lib.Dec.{eqb}
use lib.ListN.{length, replicate}
use borrow.Author.Tests.{eqb-true}
use Rattle.std.specs.List.{list_all}
use Rattle.commands.proofs.Tests.{both}
use Rattle.partial.specs.Partial.{zeros}

-- each of them is zero
pub zeros_all : (bytes : List ℕ) → list_all (λ b. eqb b 0) bytes ≡ zeros bytes
unfolding zeros
zeros_all [] = refl
zeros_all (b ∷ bytes) = rw (zeros_all bytes)

-- zero bytes are so many zeros, and back
pub zeros_are : (bytes : List ℕ) → zeros bytes ≡ true → replicate (length bytes) 0 ≡ bytes
unfolding zeros
zeros_are [] e = refl
zeros_are (b ∷ bytes) e =
    let p = both (eqb b 0) (zeros bytes) e in
    rw (eqb-true b 0 p.0) (ap (λ (l : List ℕ). 0 ∷ l) (zeros_are bytes p.1))

pub zeros_zero : (n : ℕ) → zeros (replicate n 0) ≡ true
unfolding zeros
zeros_zero zero = refl
zeros_zero (suc n) = zeros_zero n
