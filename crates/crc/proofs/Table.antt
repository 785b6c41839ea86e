-- What stands at each place of a table. Assumes nothing.
use mathlib.Core.Path.{◌≡◌, sym, ap, ◌∙◌}
use Prim.Native.Nat.{ℕ, zero, suc, ◌+◌, ◌<◌}
use native.Mathlib.Nat.{add-zero, zero-add, add-suc, suc-add, le_of_suc-le-suc, not-suc-le-zero}
use lib.ListN.{get_or}
use Rattle.crc.specs.Crc.{entries_from, table_of, byte_step}

entry_from : (f : ℕ → ℕ) (i n j : ℕ) → j < n → get_or (entries_from f i n) j 0 ≡ f (i + j)
unfolding entries_from
entry_from f i zero j h = absurd (not-suc-le-zero h)
entry_from f i (suc n) zero h = ap f (sym (add-zero i))
entry_from f i (suc n) (suc j) h = entry_from f (suc i) n j (le_of_suc-le-suc h) ∙ ap f (suc-add i j ∙ sym (add-suc i j))

pub entry : (k poly b : ℕ) → b < 256 → get_or (table_of k poly) b 0 ≡ byte_step k poly 0 b
unfolding table_of
entry k poly b h = entry_from (byte_step k poly 0) 0 256 b h ∙ ap (byte_step k poly 0) (zero-add b)
