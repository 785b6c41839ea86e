-- Good values have room in their fields, and good entries are the listed ones and then zeros. Assumes nothing.
use Prim.Native.Nat.{ℕ, zero, suc, ◌-◌, ◌%◌, ◌^◌, ◌≤◌, ◌<◌}
use mathlib.Core.Bool.{Bool, true, false, not, ◌&&◌, ◌||◌}
use mathlib.Core.Path.{◌≡◌, refl, sym, ap, ap₂, ◌∙◌}
use mathlib.Core.List.{List, [], ◌∷◌, ◌++◌}
use native.Mathlib.Omega.{arith}
use native.Mathlib.Numerals.{sub-one}
use native.Mathlib.Nat.{sub-zero, suc-sub-suc}
use lib.Dec.{leb, ltb, eqb}
use lib.ListN.{length, get_or, take, replicate}
use borrow.Author.Tests.{lt-ltb, leb-true, eqb-true}
use Rattle.commands.specs.declared.Init.{Init}
use Rattle.commands.specs.declared.Setting.{Setting}
use Rattle.commands.specs.declared.Single.{Single}
use Rattle.commands.specs.Ranges.{within, good_pulse, good_count}
use Rattle.commands.specs.Commands.{Command.update, no_setting, setting_sum, sum_all, check_of, good_init, good_setting, good_entry, good_entries, good_single, good}
use Rattle.commands.proofs.Tests.{both}
use Rattle.commands.proofs.Entries.{sum_zeros}

-- an Init but for its two channel sets, which are bytes
pub record InitFits (v : Init) : Type 0 where
  pub factor_fits : v.factor < 2 ^ 3
  pub group_fits : v.group < 2 ^ 5
  pub main_fits : v.main < 2 ^ 11

-- the three bytes of an entry have 7 - low bits for its first variable
pub record EntryFits (low lead width current : ℕ) : Type 0 where
  pub lead_fits : lead < 2 ^ (7 - low)
  pub width_fits : width < 2 ^ 9
  pub current_fits : current < 2 ^ 7

pub count_fits : (count : ℕ) → good_count count ≡ true → count ≤ 8
count_fits count e = leb-true count 8 (both (leb 1 count) (leb count 8) e).1

pub update_count : (count : ℕ) (entries : List Setting) → good (update count entries) ≡ true → count ≤ 8
update_count count entries e = count_fits count (both (good_count count) (good_entries entries count) e).0

pub init_fits : (v : Init) → good_init v ≡ true → InitFits v
init_fits v e =
    let e3 = both (leb v.factor 7 && not (eqb v.stim 0) && within 3 v.group 29) (within 4 v.main 2045) e in
    let e2 = both (leb v.factor 7 && not (eqb v.stim 0)) (within 3 v.group 29) e3.0 in
    let e1 = both (leb v.factor 7) (not (eqb v.stim 0)) e2.0 in
    let factor = leb-true v.factor 7 e1.0 in
    let group = leb-true v.group 29 (both (leb 3 v.group) (leb v.group 29) e2.1).1 in
    let main = leb-true v.main 2045 (both (leb 4 v.main) (leb v.main 2045) e3.1).1 in
    omega arith

-- Width is at most 500
width_le : (width : ℕ) (none : Bool) → eqb width 0 ≡ none → none || within 10 width 500 ≡ true → width ≤ 500
width_le width true z e = omega (arith, eqb-true width 0 z)
width_le width false z e = leb-true _ _ (both (leb 10 width) (leb width 500) e).1

pulse_fits : (low lead width current : ℕ) → lead < 2 ^ (7 - low) → good_pulse width current ≡ true → EntryFits low lead width current
pulse_fits low lead width current h e =
    let p = both (eqb width 0 || within 10 width 500) (leb current 127) e in
    let w = width_le width _ refl p.0 in
    let c = leb-true current 127 p.1 in
    omega arith

pub setting_fits : (v : Setting) → good_setting v ≡ true → EntryFits 5 v.mode v.width v.current
setting_fits v e =
    let p = both (leb v.mode 2) (good_pulse v.width v.current) e in
    pulse_fits 5 _ _ _ (omega (arith, leb-true v.mode 2 p.0)) p.1

pub single_fits : (v : Single) → good_single v ≡ true → EntryFits 4 v.channel v.width v.current
single_fits v e =
    let p = both (leb v.channel 7) (good_pulse v.width v.current) e in
    pulse_fits 4 _ _ _ (omega (arith, leb-true v.channel 7 p.0)) p.1

-- ---- the entries of an Update

-- a listed entry is good
pub listed_good : (entries : List Setting) (count i : ℕ) → good_entries entries count ≡ true → i < count
    → good_setting (get_or entries i no_setting) ≡ true
unfolding good_entries
listed_good [] count i e h = refl
listed_good (v ∷ vs) count zero e h =
    rw (lt-ltb 0 count h) at (both (good_entry v (ltb 0 count)) (good_entries vs (count - 1)) e).0
listed_good (v ∷ vs) count (suc i) e h =
    listed_good vs (count - 1) i (both (good_entry v (ltb 0 count)) (good_entries vs (count - 1)) e).1 (omega arith)

-- each setting of a list has room
abbrev pub AllFit : List Setting → Type 0
AllFit [] = Unit
AllFit (v ∷ vs) = EntryFits 5 v.mode v.width v.current × AllFit vs

pub listed_fit : (entries : List Setting) (count : ℕ) → good_entries entries count ≡ true → AllFit (take count entries)
unfolding good_entries
listed_fit [] zero e = tt
listed_fit [] (suc count) e = tt
listed_fit (v ∷ vs) zero e = tt
listed_fit (v ∷ vs) (suc count) e =
    let p = both (good_entry v (ltb 0 (suc count))) (good_entries vs (suc count - 1)) e in
    (setting_fits v (simp (lt-ltb 0 (suc count) (omega arith)) at p.0), listed_fit vs count (simp sub-one at p.1))

-- a setting whose variables sum to 0 is zero
zero_setting : (v : Setting) → eqb (setting_sum v) 0 ≡ true → no_setting ≡ v
zero_setting v e =
    let h : setting_sum v ≡ 0 = eqb-true _ _ e in
    let m : 0 ≡ v.mode = omega arith in
    let w : 0 ≡ v.width = omega arith in
    let c : 0 ≡ v.current = omega arith in
    λ i. record { mode = m i; width = w i; current = c i }

-- good entries are the listed ones and then zeros
pub then_zeros : (entries : List Setting) (count : ℕ) → good_entries entries count ≡ true → count ≤ length entries
    → take count entries ++ replicate (length entries - count) no_setting ≡ entries
unfolding good_entries
then_zeros [] zero e h = refl
then_zeros [] (suc count) e h = absurd (omega arith)
then_zeros (v ∷ vs) zero e h =
    let p = both (eqb (setting_sum v) 0) (good_entries vs 0) e in
    let r : replicate (length vs) no_setting ≡ vs = simp sub-zero at (then_zeros vs 0 p.1 (omega arith)) in
    rw sub-zero (ap₂ (λ (x : Setting) (xs : List Setting). x ∷ xs) (zero_setting v p.0) r)
then_zeros (v ∷ vs) (suc count) e h =
    let p = both (good_entry v (ltb 0 (suc count))) (good_entries vs (suc count - 1)) e in
    let on : good_entries vs count ≡ true = simp sub-one at p.1 in
    rw suc-sub-suc (ap (λ (xs : List Setting). v ∷ xs) (then_zeros vs count on (omega arith)))

-- so that those past the count add nothing to the Check
pub check_listed : (count : ℕ) (entries : List Setting) → good_entries entries count ≡ true → count ≤ length entries
    → check_of (update count (take count entries)) ≡ check_of (update count entries)
check_listed count entries e h =
    ap (λ (n : ℕ). n % 32) (sym (sum_zeros (take count entries) (length entries - count)) ∙ ap sum_all (then_zeros entries count e h))
