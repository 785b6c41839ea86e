-- A tick leaves a good core good, and keeps the length of a partial frame good. Assumes nothing.
use Prim.Native.Nat.{ℕ, ◌+◌}
use mathlib.Core.Bool.{true, false}
use mathlib.Core.Path.{◌≡◌}
use native.Mathlib.Omega.{arith}
use Rattle.model.specs.declared.Profile.{Profile}
use Rattle.model.specs.declared.Core.{Core}
use Rattle.model.specs.State.{is_running}
use Rattle.model.specs.Ticks.{aged, timed, moved}
use Rattle.model.specs.Good.{zero_run, good_size}
use Rattle.model.proofs.Tests.{not_both}
use Rattle.model.proofs.GoodRuns.{GoodRun}
use Rattle.model.proofs.GoodStates.{GoodCore}
use Rattle.model.proofs.Listed.{running_channels}
use Rattle.model.proofs.Cases.{timed_cases}
use Rattle.model.proofs.Sizes.{KeepsSizes, trip_keeps_sizes}
use Rattle.model.proofs.Runs.{moved_run}
use Rattle.model.proofs.Resting.{trip_core}

module _ (p : Profile) (clock : ℕ) (m : Core) (g : GoodCore p clock m) where
  -- the holds fall
  aged_core : (is_running m ≡ true → GoodRun p (clock + 1) (aged m).run) → (is_running m ≡ false → zero_run (aged m).run ≡ true)
      → GoodCore p (clock + 1) (aged m)
  aged_core f h = record { holda = omega arith; holdb = omega arith; state = g.state; running = f; resting = h }

  -- the core that it leaves
  pub timed_core : GoodCore p (clock + 1) (timed p (clock + 1) (aged m)).core
  timed_core =
      timed_cases (λ d. GoodCore p (clock + 1) d.core) p (clock + 1) (aged m)
      (λ e. aged_core (λ f. not_both f e) (λ f. rw e (g.resting e)))
      (λ e w. trip_core p (clock + 1) (aged m) (omega arith) (omega arith))
      (λ e w. aged_core (λ f. rw e (moved_run (rw e at w) (g.running e))) (λ f. not_both e f))

-- a tick keeps the partial frame, and it stays good, also where the watchdog trips the box
pub timed_keeps_sizes : (p : Profile) (clock : ℕ) (m : Core) → GoodCore p clock m → KeepsSizes m (timed p (clock + 1) (aged m)).core
unfolding good_size moved
timed_keeps_sizes p clock m g =
    timed_cases (λ d. KeepsSizes m d.core) p (clock + 1) (aged m)
    (λ e k size h. rw e h)
    (λ e w. trip_keeps_sizes m e (running_channels g e))
    (λ e w k size h. rw e h)
