-- Laws of tests and counts over the channels, one after the other: what one turn of a loop adds. Assumes nothing.
use Prim.Native.Nat.{ℕ, zero, suc, ◌+◌, ◌≤◌}
use mathlib.Core.Bool.{Bool, true, false, cond, ◌||◌}
use mathlib.Core.Path.{◌≡◌}
use native.Mathlib.Omega.{arith}
use native.Mathlib.Numerals.{add-one}
use Rattle.model.specs.Below.{some_below}
use Rattle.model.specs.Channels.{in_set, many}

-- one number more
module _ (n : ℕ) where
  pub some_turn : (f : ℕ → Bool) → some_below (n + 1) f ≡ some_below n f || f n
  some_turn f = rw add-one

  pub many_turn : (set first : ℕ) (listed : Bool) → listed ≡ in_set set (first + n) → many set first (n + 1) ≡ many set first n + cond listed 1 0
  unfolding many
  many_turn set first listed e = rw (add-one, e)

at_most_one : (b : Bool) → cond b 1 0 ≤ 1
at_most_one true = omega arith
at_most_one false = omega arith

-- no more are listed than there are
pub many_most : (set first n : ℕ) → many set first n ≤ n
unfolding many
many_most set first zero = omega arith
many_most set first (suc n) = omega (arith, many_most set first n, at_most_one (in_set set (first + n)))
