-- A good run stays good: fed, with another waiting update, moved on; and a list just started is good. Assumes nothing.
use Prim.Native.Nat.{ℕ, ◌+◌, ◌<◌}
use mathlib.Core.Bool.{Bool, true, false, ◌&&◌}
use mathlib.Core.Path.{◌≡◌, refl}
use mathlib.Core.List.{List}
use native.Mathlib.Omega.{arith}
use lib.Dec.{leb, eqb}
use borrow.Author.Tests.{leb-false, eqb-false}
use Rattle.commands.specs.declared.Init.{Init}
use Rattle.commands.specs.declared.Setting.{Setting}
use Rattle.commands.specs.Ranges.{within}
use Rattle.commands.proofs.Tests.{both}
use Rattle.model.specs.declared.Profile.{Profile}
use Rattle.model.specs.declared.Run.{Run}
use Rattle.model.specs.Below.{all_below}
use Rattle.model.specs.Timing.{t1}
use Rattle.model.specs.Profiles.{good_limits, good_profile}
use Rattle.model.specs.Effects.{fed, started, waited}
use Rattle.model.specs.Ticks.{turned, moved}
use Rattle.model.proofs.Tests.{either_way}
use Rattle.model.proofs.GoodRuns.{in_range_lem, GoodList, GoodRun}
use Rattle.model.proofs.Settings.{Fits, silence_fits}

-- a t1 is some tenths
t1_pos : (main : ℕ) → 0 < t1 main
unfolding t1
t1_pos main = omega arith

-- a good profile's watchdog is at least 1
pub watchdog_pos : (p : Profile) → good_profile p ≡ true → 0 < p.watchdog
unfolding good_profile
watchdog_pos p g =
    let others : Bool = all_below 8 (good_limits p) && leb p.charge 63500 && within 30 p.shortest 10235 in
    (in_range_lem 1 p.watchdog 600000 (both others (within 1 p.watchdog 600000) g).1).least

module _ {p : Profile} {clock : ℕ} {r : Run} where
  -- with the watchdog fed
  pub fed_run : 0 < p.watchdog → GoodRun p clock r → GoodRun p clock (fed r)
  fed_run w g =
      record {
        list = g.list;
        settings = g.settings;
        waiting = g.waiting;
        waits = g.waits;
        position = g.position;
        cycle = g.cycle;
        watch = w;
      }

  -- with another waiting update
  pub waited_run : {settings : List Setting} → 0 < p.watchdog → Fits p r.list settings → GoodRun p clock r
      → GoodRun p clock (waited r settings)
  waited_run w f g =
      record {
        list = g.list;
        settings = g.settings;
        waiting = f;
        waits = refl;
        position = g.position;
        cycle = g.cycle;
        watch = w;
      }

  -- moved on, back to position 0 or not
  turned_run : (over : Bool) → (over ≡ false → r.position + 1 < t1 r.list.main) → r.watch + 1 < p.watchdog → GoodRun p clock r
      → GoodRun p (clock + 1) (turned over r)
  turned_run true f w g =
      record {
        list = g.list;
        settings = either_way (eqb r.waits 1) (λ e. rw e g.waiting) (λ e. rw e g.settings);
        waiting = silence_fits p r.list g.list.once;
        waits = refl;
        position = t1_pos r.list.main;
        cycle = omega arith;
        watch = w;
      }
  turned_run false f w g =
      record {
        list = g.list;
        settings = g.settings;
        waiting = g.waiting;
        waits = g.waits;
        position = f refl;
        cycle = omega arith;
        watch = w;
      }

  -- moved on, where it does not reach the watchdog
  pub moved_run : leb p.watchdog (moved r).watch ≡ false → GoodRun p clock r → GoodRun p (clock + 1) (moved r)
  unfolding moved
  moved_run w g =
      let t : ℕ = t1 r.list.main in
      turned_run (eqb (r.position + 1) t)
      (λ e. let d : r.position + 1 ≡ t → ⊥ = eqb-false (r.position + 1) t e in omega arith)
      (leb-false p.watchdog (r.watch + 1) w) g

-- a list just started
pub started_run : {p : Profile} (clock : ℕ) {v : Init} → 0 < p.watchdog → GoodList p v → GoodRun p clock (started v)
started_run {p} clock {v} w g =
    let quiet = silence_fits p v g.once in
    record {
      list = g;
      settings = quiet;
      waiting = quiet;
      waits = refl;
      position = t1_pos v.main;
      cycle = omega arith;
      watch = w;
    }
