-- Document 01, "Numbers the box answers" and "The machine": how a finished frame is judged.
use Rattle.std.specs.Prelude.{ℕ, Bool, false, cond, not, ◌&&◌, ◌||◌, List, [], ◌∷◌, ◌++◌, ltb, eqb, set}
use Rattle.commands.specs.declared.Setting.{Setting}
use Rattle.commands.specs.Answers.{Test, ◌when◌, first_of}
use Rattle.commands.specs.Commands.{Command, Command.init, Command.update, Command.stop, Command.single, ident_of, check_of, good}
use Rattle.model.specs.declared.Profile.{Profile}
use Rattle.model.specs.declared.Core.{Core}
use Rattle.model.specs.Channels.{silence, placed}
use Rattle.model.specs.Timing.{t1, init_timing, update_timing}
use Rattle.model.specs.Profiles.{over_limits}
use Rattle.model.specs.State.{is_running, is_tripped}

abbrev pub is_update : Command → Bool
is_update c = eqb (ident_of c) 1

abbrev pub is_single : Command → Bool
is_single c = eqb (ident_of c) 3

-- the settings that a command asks for: an Update's, or a Single's on its channel alone
unfoldable pub asked : Core → Command → List Setting
asked m (init v) = silence
asked m (update count entries) = placed m.run.list.stim entries
asked m stop = silence
asked m (single v) = set silence v.channel (record { mode = 0; width = v.width; current = v.current })

-- Init applies both timing rules, Update the second
unfoldable pub breaks_timing : Core → Command → Bool
breaks_timing m (init v) = not (init_timing v)
breaks_timing m (update count entries) = not (update_timing m.run.list (asked m (update count entries)))
breaks_timing m stop = false
breaks_timing m (single v) = false

-- the hold of channel i's module
abbrev pub hold_of : Core → ℕ → ℕ
hold_of m i = cond (ltb i 4) m.holda m.holdb

-- Single is refused while its module's hold is above 0
unfoldable pub in_hold : Core → Command → Bool
in_hold m (init v) = false
in_hold m (update count entries) = false
in_hold m stop = false
in_hold m (single v) = ltb 0 (hold_of m v.channel)

-- Init is over a limit if t1 is below the shortest, Update if one channel's current, width or charge is; Single's limits are Update's
unfoldable pub over_limit : Profile → Core → Command → Bool
over_limit p m (init v) = ltb (t1 v.main) p.shortest
over_limit p m (update count entries) = over_limits p (asked m (update count entries))
over_limit p m stop = false
over_limit p m (single v) = over_limits p (asked m (single v))

-- what may refuse a command of good values, whatever the profile says
abbrev pub late_refusals : Core → Command → List Test
late_refusals m c =
    6 when (is_update c && not (is_running m))
    ∷ 7 when (is_single c && is_running m)
    ∷ 5 when breaks_timing m c
    ∷ 8 when in_hold m c
    ∷ []

-- all tests that do not read the profile; the first number is the frame's own Check
unfoldable pub refusals : Core → ℕ → Command → List Test
refusals m k c =
    3 when not (eqb k (check_of c))
    ∷ 10 when ((is_update c || is_single c) && is_tripped m)
    ∷ 4 when not (good c)
    ∷ late_refusals m c

-- a finished frame is tested: 3; 10; 4; 6 or 7; 5; 8; 9
unfoldable pub judge : Profile → Core → ℕ → Command → ℕ
judge p m k c = first_of (refusals m k c ++ 9 when over_limit p m c ∷ [])
