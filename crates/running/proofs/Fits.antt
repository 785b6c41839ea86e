-- Settings that fit: the code asks two of their tests channel by channel. Assumes nothing.
use mathlib.Core.Bool.{Bool, true, not, ◌&&◌, ◌||◌}
use mathlib.Core.Path.{◌≡◌, sym, ap}
use mathlib.Core.List.{List, [], ◌∷◌}
use lib.ListN.{get_or}
use borrow.Author.Tests.{not-true}
use Rattle.commands.specs.declared.Init.{Init}
use Rattle.commands.specs.declared.Setting.{Setting}
use Rattle.commands.specs.Commands.{no_setting, good_setting, is_zero}
use Rattle.model.specs.declared.Profile.{Profile}
use Rattle.model.specs.Below.{all_below}
use Rattle.model.specs.Channels.{in_set}
use Rattle.model.specs.Timing.{update_timing}
use Rattle.model.specs.Profiles.{over_limits}
use Rattle.model.specs.Good.{all_good, only_listed}
use Rattle.model.proofs.Rows.{all_both}
use Rattle.model.proofs.Tests.{each}
use Rattle.model.proofs.Settings.{Fits}
use Rattle.running.specs.Core.{good_at, fits}

module _ (p : Profile) (v : Init) (settings : List Setting) where
  pub fits_at : fits p v settings
      ≡ all_below 8 (λ i. good_at v.stim i (get_or settings i no_setting)) && not (over_limits p settings) && update_timing v settings
  unfolding fits good_at all_good only_listed
  fits_at =
      ap (λ (b : Bool). b && not (over_limits p settings) && update_timing v settings)
      (sym
      (all_both 8 (λ i. good_setting (get_or settings i no_setting)) (λ i. in_set v.stim i || is_zero (get_or settings i no_setting))))

  -- the same as facts
  pub fits_facts : fits p v settings ≡ true → Fits p v settings
  unfolding fits
  fits_facts e =
      let t =
      each (all_good settings) (only_listed v.stim settings ∷ not (over_limits p settings) ∷ update_timing v settings ∷ []) e in
      record { values = t 0; unlisted = t 1; timing = t 3; no_limit = not-true _ (t 2) }

  pub fits_good : Fits p v settings → fits p v settings ≡ true
  unfolding fits
  fits_good f = rw (f.values, f.unlisted, f.no_limit) f.timing
