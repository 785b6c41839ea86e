-- Laws of low bytes: what the search for a high byte finds among them. Assumes nothing.
use Prim.Native.Nat.{ℕ, suc, ◌-◌}
use mathlib.Core.Bool.{Bool, true, false, cond, not, ◌&&◌}
use mathlib.Core.Path.{◌≡◌, refl, sym, ◌∙◌}
use mathlib.Core.List.{List, [], ◌∷◌}
use lib.Dec.{eqb, eqb-zero-suc, eqb-suc-suc}
use lib.ListN.{length, take, drop}
use Rattle.std.specs.Prelude.{is_none, position}
use Rattle.bits.proofs.Highs.{none_high}
use Rattle.frames.specs.Reader.{later}
use Rattle.frames.proofs.Judging.{later_part}
use Rattle.bits.specs.High.{high, first_high}
use Rattle.model.specs.Good.{all_low}

-- bytes are low where the search runs to their end
pub low_found : (s : List ℕ) → eqb (first_high s) (length s) ≡ all_low s
unfolding first_high
low_found [] = refl
low_found (b ∷ s) = on (high b) (low_found s) where
  on : (h : Bool) → eqb (first_high s) (length s) ≡ all_low s
      → eqb (cond h 0 (suc (first_high s))) (suc (length s)) ≡ not h && all_low s
  on true e = eqb-zero-suc (length s)
  on false e = eqb-suc-suc (first_high s) (length s) ∙ e

-- and where it finds no place among those behind the first
pub none_found : (n : ℕ) (s : List ℕ) → all_low (drop 1 (take n s)) ≡ is_none (position high (take (n - 1) (drop 1 s)))
none_found n s = sym (rw later_part (none_high (later n s) ∙ low_found (later n s)))
