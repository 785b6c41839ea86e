-- The listed entries of an Update that was read: each is good if all are, and the zeros past them are not asked. Assumes nothing.
use Prim.Native.Nat.{ℕ, zero, suc, ◌+◌, ◌-◌, ◌≤◌}
use mathlib.Core.Bool.{Bool, ◌&&◌}
use mathlib.Core.Path.{◌≡◌, refl, sym, ap}
use mathlib.Core.List.{List, [], ◌∷◌, ◌++◌}
use native.Mathlib.Omega.{arith}
use native.Mathlib.Numerals.{sub-one}
use lib.Dec.{ltb}
use borrow.Author.Tests.{lt-ltb}
use lib.ListN.{length, take, replicate}
use Rattle.std.specs.List.{list_all}
use Rattle.commands.specs.declared.Setting.{Setting}
use Rattle.commands.specs.Commands.{no_setting, good_setting, good_entry, good_entries}
use Rattle.frames.specs.Layout.{settings_in, entries_in}
use Rattle.frames.proofs.Rows.{listed_in}

pub each_listed : (vs : List Setting) → list_all good_setting vs ≡ good_entries vs (length vs)
unfolding good_entries
each_listed [] = refl
each_listed (v ∷ vs) = rw (lt-ltb 0 (suc (length vs)) (omega arith), sub-one) (ap (λ (b : Bool). good_setting v && b) (each_listed vs))

good_zeros : (vs : List Setting) (count k : ℕ) → count ≤ length vs → good_entries (vs ++ replicate k no_setting) count ≡ good_entries vs count
unfolding good_entries
good_zeros [] count zero h = refl
good_zeros [] count (suc k) h =
    let e : count ≡ 0 = omega arith in
    rw e (good_zeros [] 0 k (omega arith))
good_zeros (v ∷ vs) count k h = ap (λ (b : Bool). good_entry v (ltb 0 count) && b) (good_zeros vs (count - 1) k (omega arith))

length_in : (s : List ℕ) (at count : ℕ) → length (settings_in s at count) ≡ count
unfolding settings_in
length_in s at zero = refl
length_in s at (suc count) = ap suc (length_in s (at + 3) count)

module _ (s : List ℕ) (count : ℕ) where
  pub good_listed_in : good_entries (take count (entries_in s count)) (length (take count (entries_in s count))) ≡ good_entries (entries_in s count) count
  unfolding entries_in
  good_listed_in =
      let n : length (settings_in s 1 count) ≡ count = length_in s 1 count in
      rw (listed_in s count, n) (sym (good_zeros (settings_in s 1 count) count (8 - count) (omega (arith, n))))
