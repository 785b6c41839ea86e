-- Document 01, "The machine", the timing rules (003, equations 1 and 2). Times are in tenths of a millisecond.
use Rattle.std.specs.Prelude.{ℕ, ◌+◌, ◌*◌, max, Bool, ◌&&◌, List, leb, get_or}
use Rattle.commands.specs.declared.Init.{Init}
use Rattle.commands.specs.declared.Setting.{Setting}
use Rattle.commands.specs.Commands.{no_setting}
use Rattle.model.specs.Below.{most_below}
use Rattle.model.specs.Channels.{many}

unfoldable pub t1 : ℕ → ℕ
t1 main = 5 * main + 10

unfoldable pub t2 : ℕ → ℕ
t2 group = 5 * group + 15

-- t2 at least 15 times the larger of the channel counts of modules A and B
unfoldable pub keeps_modules : Init → Bool
keeps_modules v = leb (15 * max (many v.stim 0 4) (many v.stim 4 4)) (t2 v.group)

-- t1 at least n·t2 + 15
unfoldable pub keeps_main : Init → ℕ → Bool
keeps_main v n = leb (n * t2 v.group + 15) (t1 v.main)

unfoldable pub largest_mode : List Setting → ℕ
largest_mode settings = most_below 8 λ i. (get_or settings i no_setting).mode

-- Init applies both with n = 1, Update the second, n being the largest Mode plus 1
abbrev pub init_timing : Init → Bool
init_timing v = keeps_modules v && keeps_main v 1

abbrev pub update_timing : Init → List Setting → Bool
update_timing v settings = keeps_main v (largest_mode settings + 1)
