-- Laws of the rows of an Update that are read: how many, the zeros past them, a turn of the loop over them, and its end. Assumes nothing.
use Prim.Native.Nat.{ℕ, zero, suc, ◌+◌, ◌-◌, ◌*◌, ◌≤◌, ◌<◌, ◌%◌}
use mathlib.Core.Path.{◌≡◌, refl, ap, sym}
use mathlib.Core.List.{List, ◌++◌}
use Rattle.std.proofs.lemmas.List.{append-nil}
use native.Mathlib.Omega.{arith}
use native.Mathlib.Numerals.{add-one}
use native.Mathlib.Nat.{zero-add, sub-zero, zero-sub, suc-sub-suc}
use lib.ListN.{length, set, take, drop, replicate, drop_of_length-le}
use Rattle.commands.proofs.Entries.{sum_zeros}
use lib.Seq.{take_at, sets, sets-eq}
use Rattle.commands.specs.declared.Setting.{Setting}
use Rattle.commands.specs.Commands.{no_setting, Command.update, check_of}
use Rattle.frames.specs.Layout.{setting_in, settings_in, entries_in}

-- so many settings as are asked for
length_settings_in : (s : List ℕ) (at count : ℕ) → length (settings_in s at count) ≡ count
unfolding settings_in
length_settings_in s at zero = refl
length_settings_in s at (suc count) = ap suc (length_settings_in s (at + 3) count)

-- the listed ones of the entries that are read
pub listed_in : (s : List ℕ) (count : ℕ) → take count (entries_in s count) ≡ settings_in s 1 count
unfolding entries_in
listed_in s count = take_at (settings_in s 1 count) _ count (length_settings_in s 1 count)

-- past them are zeros, which add nothing
module _ (s : List ℕ) (count : ℕ) where
  pub check_listed_in : check_of (update count (take count (entries_in s count))) ≡ check_of (update count (entries_in s count))
  unfolding entries_in
  check_listed_in = ap (λ (n : ℕ). n % 32) (rw (listed_in s count) (sym (sum_zeros (settings_in s 1 count) (8 - count))))

drop_zeros : (m n : ℕ) → drop n (replicate m no_setting) ≡ replicate (m - n) no_setting
drop_zeros m zero = rw sub-zero
drop_zeros zero (suc n) = rw zero-sub
drop_zeros (suc m) (suc n) = rw suc-sub-suc (drop_zeros m n)

-- as many settings stored over others
pub listed_stored : (s : List ℕ) (count : ℕ) (over : List Setting) → length over ≡ count → sets over 0 (settings_in s 1 count) ≡ settings_in s 1 count
listed_stored s count over h =
    let n = length_settings_in s 1 count in
    simp (zero-add, n, drop_of_length-le over {i = count} (omega arith), append-nil) at (sets-eq (settings_in s 1 count) over 0 (omega arith))

-- and zeros behind them
pub then_zeros : (s : List ℕ) (count : ℕ) (listed : List Setting) → listed ≡ settings_in s 1 count → listed ++ drop count (replicate 8 no_setting) ≡ entries_in s count
unfolding entries_in
then_zeros s count listed e = rw (e, drop_zeros 8 count)

-- the store of a turn takes one setting off those that are left
pub read_turn : (s : List ℕ) (a : List Setting) (i count : ℕ) → i < count
    → sets (set a i (setting_in s (1 + 3 * i))) (i + 1) (settings_in s (1 + 3 * (i + 1)) (count - (i + 1)))
    ≡ sets a i (settings_in s (1 + 3 * i) (count - i))
unfolding settings_in
read_turn s a i count h =
    let e : count - i ≡ suc (count - (i + 1)) = omega arith in
    let p : 1 + 3 * (i + 1) ≡ 1 + 3 * i + 3 = omega arith in
    rw (e, p, add-one i)

pub read_end : (s : List ℕ) (a : List Setting) (i count at : ℕ) → count ≤ i → sets a i (settings_in s at (count - i)) ≡ a
unfolding settings_in
read_end s a i count at h =
    let e : count - i ≡ 0 = omega arith in
    rw e
