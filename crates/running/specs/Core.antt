-- The tests that `model/specs/Good` lists of a core, by parts, as the code asks them: what belongs to one row of settings stands together.
-- That it is the same is `state_parts` of `proofs/Parts`.
use Rattle.std.specs.Prelude.{ℕ, Bool, cond, not, ◌&&◌, ◌||◌, List}
use Rattle.commands.specs.declared.Init.{Init}
use Rattle.commands.specs.declared.Setting.{Setting}
use Rattle.commands.specs.Commands.{good_setting, is_zero}
use Rattle.model.specs.declared.Profile.{Profile}
use Rattle.model.specs.declared.Run.{Run}
use Rattle.model.specs.declared.Core.{Core}
use Rattle.model.specs.Channels.{in_set}
use Rattle.model.specs.Timing.{init_timing, update_timing}
use Rattle.model.specs.Profiles.{over_limits}
use Rattle.model.specs.State.{is_running}
use Rattle.model.specs.Good.{core_in_range, good_list, all_good, good_waits, only_listed, keeps_shortest, position_below, cycle_not_above, watch_below, zero_run}

unfoldable pub good_at : ℕ → ℕ → Setting → Bool
good_at stim i x = good_setting x && (in_set stim i || is_zero x)

unfoldable pub fits : Profile → Init → List Setting → Bool
fits p v settings = all_good settings && only_listed v.stim settings && not (over_limits p settings) && update_timing v settings

abbrev pub waiting_fits : Profile → Init → ℕ → List Setting → Bool
waiting_fits p v waits waiting = fits p v waiting && good_waits waits waiting

unfoldable pub good_run : Profile → ℕ → Run → Bool
good_run p clock r =
    good_list r.list
    && init_timing r.list
    && keeps_shortest p r.list
    && fits p r.list r.settings
    && waiting_fits p r.list r.waits r.waiting
    && position_below r
    && cycle_not_above clock r
    && watch_below p r

unfoldable pub good_core : Profile → ℕ → Core → Bool
good_core p clock m = core_in_range m && cond (is_running m) (good_run p clock m.run) (zero_run m.run)
