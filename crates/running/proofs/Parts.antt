-- A good state by parts. Assumes nothing.
use Prim.Native.Nat.{ℕ}
use mathlib.Core.Bool.{Bool, true, false, cond, ◌&&◌}
use mathlib.Core.Path.{◌≡◌, refl, sym}
use mathlib.Core.List.{[], ◌∷◌}
use lib.Dec.{leb}
use borrow.Author.Tests.{leb-true, ltb-true, le-leb}
use Rattle.commands.proofs.Tests.{both}
use Rattle.model.specs.declared.Profile.{Profile}
use Rattle.model.specs.declared.Run.{Run}
use Rattle.model.specs.declared.Core.{Core}
use Rattle.model.specs.Timing.{t1, init_timing}
use Rattle.model.specs.State.{State, is_running}
use Rattle.model.specs.Ticks.{last_clock}
use Rattle.model.specs.Good.{good_list, good_waits, keeps_shortest, position_below, cycle_not_above, watch_below, zero_run, good_partial, good_state}
use Rattle.model.proofs.Tests.{◌and◌, each, either_way}
use Rattle.model.proofs.GoodRuns.{GoodRun, list_facts, list_good, run_position, run_cycle, run_watch}
use Rattle.model.proofs.GoodStates.{GoodCore, state_facts, state_good}
use Rattle.running.specs.Core.{fits, waiting_fits, good_run, good_core}
use Rattle.running.proofs.Fits.{fits_facts, fits_good}

-- a running list
module _ (p : Profile) (clock : ℕ) (r : Run) where
  run_facts : good_run p clock r ≡ true → GoodRun p clock r
  unfolding good_run
  run_facts e =
      let v = r.list in
      let t =
      each (good_list v)
      (init_timing v
      ∷ keeps_shortest p v
      ∷ fits p v r.settings
      ∷ waiting_fits p v r.waits r.waiting
      ∷ position_below r
      ∷ cycle_not_above clock r
      ∷ watch_below p r
      ∷ []) e in
      let w = both (fits p v r.waiting) (good_waits r.waits r.waiting) (t 4) in
      record {
        list = list_facts p v (t 0) (t 1) (t 2);
        settings = fits_facts p v r.settings (t 3);
        waiting = fits_facts p v r.waiting w.0;
        waits = w.1;
        position = ltb-true r.position (t1 v.main) (t 5);
        cycle = leb-true r.cycle clock (t 6);
        watch = ltb-true r.watch p.watchdog (t 7);
      }

  run_good : GoodRun p clock r → good_run p clock r ≡ true
  unfolding good_run
  run_good g =
      let v = r.list in
      list_good p v g.list
      and (g.list.modules and g.list.once)
      and le-leb p.shortest (t1 v.main) g.list.shortest
      and fits_good p v r.settings g.settings
      and (fits_good p v r.waiting g.waiting and g.waits)
      and run_position g
      and run_cycle g
      and run_watch g

-- a core
module _ (p : Profile) (clock : ℕ) (m : Core) where
  core_facts : good_core p clock m ≡ true → GoodCore p clock m
  unfolding good_core
  core_facts e =
      let t =
      each (leb m.holda 15)
      (leb m.holdb 15 ∷ leb m.state 2 ∷ cond (is_running m) (good_run p clock m.run) (zero_run m.run) ∷ []) e in
      record {
        holda = leb-true m.holda 15 (t 0);
        holdb = leb-true m.holdb 15 (t 1);
        state = leb-true m.state 2 (t 2);
        running = λ e. run_facts p clock m.run (rw e at (t 3));
        resting = λ e. rw e at (t 3);
      }

  core_good : GoodCore p clock m → good_core p clock m ≡ true
  unfolding good_core
  core_good g =
      le-leb m.holda 15 g.holda
      and le-leb m.holdb 15 g.holdb
      and le-leb m.state 2 g.state
      and either_way (is_running m) (λ e. rw e (run_good p clock m.run (g.running e))) (λ e. rw e (g.resting e))

-- two tests that hold in the same cases
same_truth : (a b : Bool) → (a ≡ true → b ≡ true) → (b ≡ true → a ≡ true) → a ≡ b
same_truth true b f g = sym (f refl)
same_truth false true f g = g refl
same_truth false false f g = refl

-- the clock, the core, the partial frame
pub state_parts : (p : Profile) (s : State)
    → good_state p s
    ≡ leb s.clock last_clock && good_core p s.clock s.core && good_partial s.core s.partial.size s.partial.bytes
state_parts p s =
    let clock : Bool = leb s.clock last_clock in
    let core : Bool = good_core p s.clock s.core in
    let partial : Bool = good_partial s.core s.partial.size s.partial.bytes in
    same_truth (good_state p s) (clock && core && partial)
    (λ e.
    let g = state_facts e in
    le-leb s.clock last_clock g.clock and core_good p s.clock s.core g.core and g.partial)
    (λ e.
    let t = each clock (core ∷ partial ∷ []) e in
    state_good (record { clock = leb-true s.clock last_clock (t 0); core = core_facts p s.clock s.core (t 1); partial = t 2 }))
