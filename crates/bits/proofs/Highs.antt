-- The search for a high byte, in the library's words. Assumes nothing.
use Prim.Native.Nat.{ℕ, suc, ◌+◌, ◌≤◌}
use mathlib.Core.Bool.{Bool, true, false, cond, not}
use mathlib.Core.Path.{◌≡◌, refl, sym, ap}
use mathlib.Core.List.{List}
use native.Mathlib.Omega.{arith}
use lib.Dec.{ltb, eqb}
use lib.ListN.{length}
use borrow.Author.Tests.{ltb-false, ltb-true, eq-eqb, ne_eqb}
use Rattle.std.specs.Prelude.{Some, None, is_some, is_none}
use Rattle.std.specs.List.{position, position_or_len}
use Rattle.std.proofs.lemmas.List.Recursion.{is_position_or_len}
use Rattle.std.proofs.lemmas.List.Sums.{prefix_len-le-length}
use Rattle.bits.specs.High.{high, first_high}

-- the first place that is high
high_place : (s : List ℕ) → first_high s ≡ position_or_len high s
unfolding first_high
high_place = is_position_or_len first_high high refl (λ b s. let e : suc (first_high s) ≡ 1 + first_high s = omega arith in ap (cond (high b) 0) e)

some_place : (p n : ℕ) → is_some (cond (ltb p n) (Some p) None) ≡ ltb p n
some_place p n = either (ltb p n)
  where
    either : (t : Bool) → is_some (cond t (Some p) None) ≡ t
    either true = refl
    either false = refl

no_place : (p n : ℕ) → p ≤ n → is_none (cond (ltb p n) (Some p) None) ≡ eqb p n
no_place p n h = either (ltb p n) refl
  where
    either : (t : Bool) → ltb p n ≡ t → is_none (cond t (Some p) None) ≡ eqb p n
    either true e = sym (ne_eqb p n (λ z. omega (arith, ltb-true p n e)))
    either false e = sym (eq-eqb p n (omega (arith, ltb-false p n e)))

-- a byte is high where the search ends before the list
pub some_high : (s : List ℕ) → is_some (position high s) ≡ ltb (first_high s) (length s)
some_high s = rw high_place (some_place (position_or_len high s) (length s))

-- none is where it ends with it
pub none_high : (s : List ℕ) → is_none (position high s) ≡ eqb (first_high s) (length s)
none_high s = rw high_place (no_place (position_or_len high s) (length s) (prefix_len-le-length (λ b. not (high b)) s))
