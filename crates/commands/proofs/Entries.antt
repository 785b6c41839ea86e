-- The entries of an Update are good if each of them is, by its place, and zeros behind them add nothing. Assumes nothing.
use Prim.Native.Nat.{ℕ, zero, suc, ◌+◌, ◌-◌}
use mathlib.Core.Bool.{Bool, true, false}
use mathlib.Core.Path.{◌≡◌, refl, sym, ap, ◌∙◌}
use mathlib.Core.List.{List, [], ◌∷◌, ◌++◌}
use native.Mathlib.Omega.{arith}
use native.Mathlib.Numerals.{sub-one}
use native.Mathlib.Nat.{zero-add}
use lib.Dec.{ltb, leb-suc-suc}
use lib.ListN.{get_or, replicate}
use borrow.Author.Tests.{le-ltb}
use Rattle.std.specs.Prelude.{◌↔◌, IsTrue, EachIndex}
use Rattle.commands.specs.declared.Setting.{Setting}
use Rattle.commands.specs.Commands.{setting_sum, sum_all, no_setting, good_entry, good_entries}
use Rattle.commands.proofs.Tests.{both}

-- behind the first entry one listed channel less is left
later_listed : (i count : ℕ) → ltb i (count - 1) ≡ ltb (suc i) count
later_listed i zero = le-ltb i (zero - 1) (omega arith) ∙ sym (le-ltb (suc i) 0 (omega arith))
later_listed i (suc count) = rw sub-one (sym (leb-suc-suc (suc i) count))

-- each entry is good, by its place
abbrev pub EachGood : List Setting → ℕ → Type 0
EachGood entries count = EachIndex entries (λ i. IsTrue (good_entry (get_or entries i no_setting) (ltb i count)))

each_good : (entries : List Setting) (count : ℕ) → EachGood entries count → good_entries entries count ≡ true
unfolding good_entries
each_good [] count h = refl
each_good (v ∷ vs) count h =
    let later : EachGood vs (count - 1) = λ i k. rw (later_listed i count) (h (suc i) (omega arith)) in
    rw (h 0 (omega arith), each_good vs (count - 1) later)

good_each : (entries : List Setting) (count : ℕ) → good_entries entries count ≡ true → EachGood entries count
unfolding good_entries
good_each [] count e i h = absurd (omega arith)
good_each (v ∷ vs) count e zero h = (both (good_entry v (ltb 0 count)) (good_entries vs (count - 1)) e).0
good_each (v ∷ vs) count e (suc i) h =
    rw (← later_listed i count) (good_each vs (count - 1) (both (good_entry v (ltb 0 count)) (good_entries vs (count - 1)) e).1 i (omega arith))

-- a test that is true exactly if each entry is good
pub all_good : (entries : List Setting) (count : ℕ) (t : Bool) → (IsTrue t ↔ EachGood entries count) → t ≡ good_entries entries count
all_good entries count t h = same t (good_entries entries count) (λ e. each_good entries count (h.0 e)) (λ e. h.1 (good_each entries count e))
  where
    same : (a b : Bool) → (a ≡ true → b ≡ true) → (b ≡ true → a ≡ true) → a ≡ b
    same true b f g = sym (f refl)
    same false true f g = g refl
    same false false f g = refl

-- zeros past them add nothing
pub sum_zeros : (vs : List Setting) (k : ℕ) → sum_all (vs ++ replicate k no_setting) ≡ sum_all vs
unfolding sum_all
sum_zeros [] zero = refl
sum_zeros [] (suc k) = zero-add _ ∙ sum_zeros [] k
sum_zeros (v ∷ vs) k = ap (λ (n : ℕ). setting_sum v + n) (sum_zeros vs k)
