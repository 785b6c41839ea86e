-- The first bytes of a list one by one, and what stands behind them. Assumes nothing.
use Prim.Native.Nat.{ℕ, zero, suc, ◌+◌, ◌≤◌}
use mathlib.Core.Path.{◌≡◌, sym, ap, ◌∙◌}
use mathlib.Core.List.{List, [], ◌∷◌, ◌++◌, append-nil}
use native.Mathlib.Nat.{add-zero, add-suc, zero-add, suc-add}
use native.Mathlib.Omega.{arith}
use lib.ListN.{length, get_or, drop, drop_of_length-le}
use lib.Seq.{drop-cons}

-- so many bytes from a place on
abbrev bytes_from : List ℕ → ℕ → ℕ → List ℕ
bytes_from d i zero = []
bytes_from d i (suc k) = get_or d i 0 ∷ bytes_from d (suc i) k

module _ (d : List ℕ) where
  from_place : (k i : ℕ) → i + k ≤ length d → bytes_from d i k ++ drop (i + k) d ≡ drop i d
  from_place zero i h = rw add-zero
  from_place (suc k) i h =
      ap (λ (l : List ℕ). get_or d i 0 ∷ l) (rw (add-suc, ← suc-add) (from_place k (suc i) (omega arith))) ∙ sym (drop-cons d i 0 (omega arith))

  -- THEOREM. The first bytes, then those behind them, are all.
  pub front_again : (k : ℕ) → k ≤ length d → bytes_from d 0 k ++ drop k d ≡ d
  front_again k h = rw zero-add at (from_place k 0 (omega arith))

  -- THEOREM. As many first bytes as there are are all.
  pub whole_again : (k : ℕ) → k ≡ length d → bytes_from d 0 k ≡ d
  whole_again k e =
      let rest : drop k d ≡ [] = drop_of_length-le d {i = k} (omega arith) in rw (rest, append-nil) at (front_again k (omega arith))
