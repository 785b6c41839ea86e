-- Document 01, last paragraph of "The machine": "A box record is good if ..". Its words stand here in their order, each over its test, and
-- `good_tests` lists the tests. `record/specs/Box` puts in front what a record has beside the machine: profile, ring, bytes not in use.
use Rattle.std.specs.Prelude.{ℕ, suc, ◌%◌, Bool, true, false, cond, not, ◌&&◌, ◌||◌, List, [], ◌∷◌, leb, ltb, eqb, length, get_or}
use Rattle.bits.specs.High.{high}
use Rattle.commands.specs.declared.Init.{Init}
use Rattle.commands.specs.declared.Setting.{Setting}
use Rattle.commands.specs.Ranges.{within}
use Rattle.commands.specs.Commands.{no_setting, good_init, good_setting, is_zero}
use Rattle.frames.specs.Layout.{ident_in, size_for}
use Rattle.model.specs.declared.Profile.{Profile}
use Rattle.model.specs.declared.Run.{Run}
use Rattle.model.specs.declared.Core.{Core}
use Rattle.model.specs.Below.{all_below}
use Rattle.model.specs.Channels.{in_set, channels}
use Rattle.model.specs.Timing.{t1, init_timing, update_timing}
use Rattle.model.specs.Profiles.{over_limits}
use Rattle.model.specs.State.{State, by_state, is_running}
use Rattle.model.specs.Ticks.{last_clock}

-- what is asked of a running box alone, and of a box not running
abbrev pub if_running : Core → Bool → Bool
if_running m test = cond (is_running m) test true

abbrev pub if_resting : Core → Bool → Bool
if_resting m test = cond (is_running m) true test

-- ---- "each number is in its range here": what is not in use has the range 0 to 0

-- each hold is 0 to 15, and the state is one of three
abbrev pub core_in_range : Core → Bool
core_in_range m = leb m.holda 15 && leb m.holdb 15 && leb m.state 2

-- good values, and channel sets of one byte
abbrev pub good_list : Init → Bool
good_list v = good_init v && leb v.stim 255 && leb v.lf 255

-- settings for eight channels: good values, or zero throughout
unfoldable pub all_good : List Setting → Bool
all_good settings = all_below 8 λ i. good_setting (get_or settings i no_setting)

abbrev pub all_zero : List Setting → Bool
all_zero settings = all_below 8 λ i. is_zero (get_or settings i no_setting)

-- an update waits, 1, or none does, 0, and the waiting settings are not in use
abbrev pub good_waits : ℕ → List Setting → Bool
good_waits waits waiting = leb waits 1 && (eqb waits 1 || all_zero waiting)

unfoldable pub run_in_range : Run → Bool
run_in_range r = good_list r.list && all_good r.settings && all_good r.waiting && good_waits r.waits r.waiting

-- the ranges of position, cycle, watchdog count and partial frame are the later tests
unfoldable pub in_range : State → Bool
in_range s = leb s.clock last_clock && core_in_range s.core && if_running s.core (run_in_range s.core.run)

-- ---- "unlisted settings are zero"

unfoldable pub only_listed : ℕ → List Setting → Bool
only_listed stim settings = all_below 8 λ i. in_set stim i || is_zero (get_or settings i no_setting)

unfoldable pub unlisted_zero : Run → Bool
unlisted_zero r = only_listed r.list.stim r.settings && only_listed r.list.stim r.waiting

-- ---- "a running list with its settings and its waiting update keeps both timing rules and the profile"

-- Init's rules, and Update's with each row of settings
unfoldable pub keeps_timing : Run → Bool
keeps_timing r = init_timing r.list && update_timing r.list r.settings && update_timing r.list r.waiting

-- t1 is not below the shortest, and no setting is over a limit
abbrev pub keeps_shortest : Profile → Init → Bool
keeps_shortest p v = leb p.shortest (t1 v.main)

unfoldable pub keeps_profile : Profile → Run → Bool
keeps_profile p r = keeps_shortest p r.list && not (over_limits p r.settings) && not (over_limits p r.waiting)

-- ---- "position is below t1, cycle not above the clock, the watchdog count below the watchdog"

abbrev pub position_below : Run → Bool
position_below r = ltb r.position (t1 r.list.main)

abbrev pub cycle_not_above : ℕ → Run → Bool
cycle_not_above clock r = leb r.cycle clock

abbrev pub watch_below : Profile → Run → Bool
watch_below p r = ltb r.watch p.watchdog

-- ---- "a box not running has the zeros named above"

abbrev pub zero_list : Init → Bool
zero_list v = eqb v.factor 0 && eqb v.stim 0 && eqb v.lf 0 && eqb v.group 0 && eqb v.main 0

unfoldable pub zero_run : Run → Bool
zero_run r =
    zero_list r.list
    && all_zero r.settings
    && eqb r.waits 0
    && all_zero r.waiting
    && eqb r.position 0
    && eqb r.cycle 0
    && eqb r.watch 0

-- ---- "the partial frame is empty, length 0, or a high byte followed by low ones, shorter than its kept length"

abbrev pub all_low : List ℕ → Bool
all_low [] = true
all_low (b ∷ bytes) = not (high b) && all_low bytes

-- "That length is the frame's own; for Update it is the running list's, or 4 to 25 in steps of 3 when tripped, and no Update is open
-- when idle"
abbrev pub good_update_size : Core → ℕ → Bool
good_update_size m n = by_state m.state false (eqb n (size_for 1 (channels m.run.list.stim))) (within 4 n 25 && eqb (n % 3) 1)

unfoldable pub good_size : Core → ℕ → ℕ → Bool
good_size m k n = cond (eqb k 1) (good_update_size m n) (eqb n (size_for k 1))

unfoldable pub good_partial : Core → ℕ → List ℕ → Bool
good_partial m n [] = eqb n 0
good_partial m n (b ∷ bytes) = high b && all_low bytes && ltb (suc (length bytes)) n && good_size m (ident_in (b ∷ [])) n

-- ---- all of it, in this order

abbrev pub good_tests : Profile → State → List Bool
good_tests p s =
    let m : Core = s.core in
    let r : Run = s.core.run in
    in_range s
    ∷ unlisted_zero r
    ∷ if_running m (keeps_timing r && keeps_profile p r)
    ∷ if_running m (position_below r)
    ∷ if_running m (cycle_not_above s.clock r)
    ∷ if_running m (watch_below p r)
    ∷ if_resting m (zero_run r)
    ∷ good_partial m s.partial.size s.partial.bytes
    ∷ []

abbrev pub all_hold : List Bool → Bool
all_hold [] = true
all_hold (test ∷ tests) = test && all_hold tests

unfoldable pub good_state : Profile → State → Bool
good_state p s = all_hold (good_tests p s)
