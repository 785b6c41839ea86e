-- Document 01, "Profile".
use Rattle.std.specs.Prelude.{ℕ, ◌*◌, ◌≤◌, ◌<◌, Bool, ◌&&◌, ◌||◌, List, leb, ltb, get_or}
use Rattle.commands.specs.declared.Setting.{Setting}
use Rattle.commands.specs.Ranges.{within}
use Rattle.commands.specs.Commands.{no_setting}
use Rattle.model.specs.declared.Profile.{Profile}
use Rattle.model.specs.Below.{all_below, some_below}

-- for each of eight channels a largest current (0 to 127) and a largest width (0 to 500)
abbrev pub good_limits : Profile → ℕ → Bool
good_limits p i = leb (get_or p.currents i 0) 127 && leb (get_or p.widths i 0) 500

-- each of its numbers is in its range
unfoldable pub good_profile : Profile → Bool
good_profile p = all_below 8 (good_limits p) && leb p.charge 63500 && within 30 p.shortest 10235 && within 1 p.watchdog 600000

-- q is nowhere looser than p: its shortest t1 is not smaller and none of its other numbers is greater
pub record NowhereLooser (q p : Profile) : Type 0 where
  pub currents : (i : ℕ) → i < 8 → get_or q.currents i 0 ≤ get_or p.currents i 0
  pub widths : (i : ℕ) → i < 8 → get_or q.widths i 0 ≤ get_or p.widths i 0
  pub charge : q.charge ≤ p.charge
  pub shortest : p.shortest ≤ q.shortest
  pub watchdog : q.watchdog ≤ p.watchdog

-- channel i's current, width or charge is over a limit
unfoldable pub over_at : Profile → ℕ → Setting → Bool
over_at p i x =
    ltb (get_or p.currents i 0) x.current || ltb (get_or p.widths i 0) x.width || ltb p.charge (x.current * x.width)

-- one channel's is
unfoldable pub over_limits : Profile → List Setting → Bool
over_limits p settings = some_below 8 λ i. over_at p i (get_or settings i no_setting)
