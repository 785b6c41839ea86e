-- Settings that fit a list: silence, and what an Update asks for. Assumes nothing.
use Prim.Native.Nat.{ℕ, zero, suc, ◌-◌, ◌<◌}
use mathlib.Core.Bool.{true, false, cond, ◌||◌, or-true}
use mathlib.Core.Path.{◌≡◌, refl, ap, ◌∙◌}
use mathlib.Core.List.{List, [], ◌∷◌}
use native.Mathlib.Omega.{arith}
use lib.Dec.{ltb, eqb, leb-suc-zero}
use lib.ListN.{get_or}
use borrow.Author.Tests.{le-leb, eq-eqb, eqb-true}
use Rattle.commands.specs.declared.Init.{Init}
use Rattle.commands.specs.declared.Setting.{Setting}
use Rattle.commands.specs.Ranges.{within}
use Rattle.commands.specs.Commands.{no_setting, setting_sum, good_setting, is_zero, good_entry, good_entries}
use Rattle.commands.proofs.Tests.{both}
use Rattle.model.specs.declared.Profile.{Profile}
use Rattle.model.specs.Channels.{in_set, many, silence, placed}
use Rattle.model.specs.Timing.{keeps_main, largest_mode, update_timing}
use Rattle.model.specs.Profiles.{over_at, over_limits}
use Rattle.model.specs.Good.{all_good, all_zero, only_listed}
use Rattle.model.proofs.Tests.{◌and◌, either_way}
use Rattle.model.proofs.Below.{each_below_lem, all_below_lem, no_below, most_zero, row_at}

-- a setting whose variables sum to 0 is good
zero_good : (x : Setting) → is_zero x ≡ true → good_setting x ≡ true
zero_good x e =
    let h : setting_sum x ≡ 0 = eqb-true (setting_sum x) 0 e in
    let w : eqb x.width 0 || within 10 x.width 500 ≡ true = rw (eq-eqb x.width 0 (omega arith)) in
    le-leb x.mode 2 (omega arith) and (w and le-leb x.current 127 (omega arith))

-- a zero setting is over no limit
zero_under : (p : Profile) (i : ℕ) → over_at p i no_setting ≡ false
unfolding over_at
zero_under p i = rw (leb-suc-zero (get_or p.currents i 0), leb-suc-zero (get_or p.widths i 0), leb-suc-zero p.charge)

-- a setting whose variables sum to 0 has none
zero_is : (x : Setting) → is_zero x ≡ true → x ≡ no_setting
zero_is x e =
    let h : setting_sum x ≡ 0 = eqb-true (setting_sum x) 0 e in
    let mode : x.mode ≡ 0 = omega arith in
    let width : x.width ≡ 0 = omega arith in
    let current : x.current ≡ 0 = omega arith in
    ap (λ (n : ℕ). setting n x.width x.current) mode ∙ ap (λ (n : ℕ). setting 0 n x.current) width ∙ ap (setting 0 0) current
  where
    setting : ℕ → ℕ → ℕ → Setting
    setting mode width current = record { mode = mode; width = width; current = current }

-- settings that a list may have: good values, zero where not listed, in time, over no limit
pub record Fits (p : Profile) (v : Init) (settings : List Setting) : Type 0 where
  pub values : all_good settings ≡ true
  pub unlisted : only_listed v.stim settings ≡ true
  pub timing : update_timing v settings ≡ true
  pub no_limit : over_limits p settings ≡ false

-- settings that are all zero, of any list
module _ (settings : List Setting) (z : all_zero settings ≡ true) where
  zeros : (i : ℕ) → i < 8 → get_or settings i no_setting ≡ no_setting
  zeros i h = zero_is (get_or settings i no_setting) (each_below_lem 8 (λ i. is_zero (get_or settings i no_setting)) z i h)

  pub zeros_unlisted : (stim : ℕ) → only_listed stim settings ≡ true
  unfolding only_listed
  zeros_unlisted stim =
      all_below_lem 8 (λ i. in_set stim i || is_zero (get_or settings i no_setting)) (λ i h. rw (zeros i h, or-true (in_set stim i)))

  -- they fit one that keeps its timing rule with n = 1
  pub zeros_fit : (p : Profile) (v : Init) → keeps_main v 1 ≡ true → Fits p v settings
  unfolding all_good over_limits largest_mode
  zeros_fit p v e =
      record {
        values = all_below_lem 8 (λ i. good_setting (get_or settings i no_setting)) (λ i h. rw (zeros i h));
        unlisted = zeros_unlisted v.stim;
        timing = rw (most_zero 8 (λ i. (get_or settings i no_setting).mode) (λ i h. ap (λ (x : Setting). x.mode) (zeros i h))) e;
        no_limit = no_below 8 (λ i. over_at p i (get_or settings i no_setting)) (λ i h. rw (zeros i h) (zero_under p i));
      }

pub silence_fits : (p : Profile) (v : Init) → keeps_main v 1 ≡ true → Fits p v silence
silence_fits = zeros_fit silence refl

-- each entry of a good Update is good, whether listed or past the count
entry_good : (entries : List Setting) (count i : ℕ) → good_entries entries count ≡ true → good_setting (get_or entries i no_setting) ≡ true
unfolding good_entries
entry_good [] count i e = refl
entry_good (x ∷ entries) count zero e =
    let h = (both (good_entry x (ltb 0 count)) (good_entries entries (count - 1)) e).0 in
    either_way (ltb 0 count) (λ t. rw t at h) (λ t. zero_good x (rw t at h))
entry_good (x ∷ entries) count (suc i) e =
    entry_good entries (count - 1) i (both (good_entry x (ltb 0 count)) (good_entries entries (count - 1)) e).1

-- what an Update asks for fits, where it is good, keeps the timing rule and is over no limit
module _ (p : Profile) (v : Init) (entries : List Setting) (count : ℕ) where
  -- what is asked for at channel i
  abbrev at : ℕ → Setting
  at i = cond (in_set v.stim i) (get_or entries (many v.stim 0 i) no_setting) no_setting

  asked_at : (i : ℕ) → i < 8 → get_or (placed v.stim entries) i no_setting ≡ at i
  unfolding placed
  asked_at = row_at 8 at no_setting

  at_good : good_entries entries count ≡ true → (i : ℕ) → good_setting (at i) ≡ true
  at_good g i = either_way (in_set v.stim i) (λ t. rw t (entry_good entries count (many v.stim 0 i) g)) (λ t. rw t)

  at_unlisted : (i : ℕ) → in_set v.stim i || is_zero (at i) ≡ true
  at_unlisted i = either_way (in_set v.stim i) (λ t. rw t) (λ t. rw t)

  pub placed_fits : good_entries entries count ≡ true → update_timing v (placed v.stim entries) ≡ true
      → over_limits p (placed v.stim entries) ≡ false → Fits p v (placed v.stim entries)
  unfolding all_good only_listed
  placed_fits g t o =
      let x : ℕ → Setting = λ i. get_or (placed v.stim entries) i no_setting in
      record {
        values = all_below_lem 8 (λ i. good_setting (x i)) (λ i h. rw (asked_at i h) (at_good g i));
        unlisted = all_below_lem 8 (λ i. in_set v.stim i || is_zero (x i)) (λ i h. rw (asked_at i h) (at_unlisted i));
        timing = t;
        no_limit = o;
      }
