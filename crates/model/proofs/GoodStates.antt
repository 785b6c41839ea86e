-- What it means that a state is good, fact by fact. Assumes nothing.
use Prim.Native.Nat.{ℕ, ◌≤◌}
use mathlib.Core.Bool.{Bool, true, false}
use mathlib.Core.Path.{◌≡◌, refl}
use mathlib.Core.List.{[], ◌∷◌}
use lib.Dec.{leb, eqb}
use borrow.Author.Tests.{leb-true, le-leb}
use Rattle.model.specs.declared.Profile.{Profile}
use Rattle.model.specs.declared.Run.{Run}
use Rattle.model.specs.declared.Core.{Core}
use Rattle.model.specs.State.{State, is_running}
use Rattle.model.specs.Ticks.{last_clock}
use Rattle.model.specs.Good.{if_running, if_resting, core_in_range, all_zero, run_in_range, in_range, unlisted_zero, zero_list, zero_run, good_partial, good_tests, good_state}
use Rattle.model.proofs.Tests.{◌and◌, each, each_holds, either_way}
use Rattle.model.proofs.Settings.{zeros_unlisted}
use Rattle.model.proofs.GoodRuns.{GoodRun, run_facts, run_range, run_unlisted, run_rules, run_position, run_cycle, run_watch}

-- each hold is 0 to 15, the state is one of three, and the run is a good one or zero
pub record GoodCore (p : Profile) (clock : ℕ) (m : Core) : Type 0 where
  pub holda : m.holda ≤ 15
  pub holdb : m.holdb ≤ 15
  pub state : m.state ≤ 2
  pub running : is_running m ≡ true → GoodRun p clock m.run
  pub resting : is_running m ≡ false → zero_run m.run ≡ true

-- a core and a partial frame that are good, at a clock not past its end
pub record GoodState (p : Profile) (s : State) : Type 0 where
  pub clock : s.clock ≤ last_clock
  pub core : GoodCore p s.clock s.core
  pub partial : good_partial s.core s.partial.size s.partial.bytes ≡ true

-- a test of a running box alone, and one of a box not running
module _ (m : Core) {test : Bool} where
  if_running_lem : (is_running m ≡ true → test ≡ true) → if_running m test ≡ true
  if_running_lem f = either_way (is_running m) (λ e. rw e (f e)) (λ e. rw e)

  if_resting_lem : (is_running m ≡ false → test ≡ true) → if_resting m test ≡ true
  if_resting_lem f = either_way (is_running m) (λ e. rw e) (λ e. rw e (f e))

-- the zeros of a box not running are those of unlisted settings too
still_unlisted : (r : Run) → zero_run r ≡ true → unlisted_zero r ≡ true
unfolding zero_run unlisted_zero
still_unlisted r e =
    let t =
    each (zero_list r.list)
    (all_zero r.settings ∷ eqb r.waits 0 ∷ all_zero r.waiting ∷ eqb r.position 0 ∷ eqb r.cycle 0 ∷ eqb r.watch 0 ∷ []) e in
    zeros_unlisted r.settings (t 1) r.list.stim and zeros_unlisted r.waiting (t 3) r.list.stim

-- the state's tests
module _ {p : Profile} {s : State} where
  pub state_facts : good_state p s ≡ true → GoodState p s
  unfolding good_state in_range
  state_facts e =
      let m : Core = s.core in
      let t = each_holds (good_tests p s) e in
      let range = each (leb s.clock last_clock) (core_in_range m ∷ if_running m (run_in_range m.run) ∷ []) (t 0) in
      let core = each (leb m.holda 15) (leb m.holdb 15 ∷ leb m.state 2 ∷ []) (range 1) in
      record {
        clock = leb-true s.clock last_clock (range 0);
        core = record {
          holda = leb-true m.holda 15 (core 0);
          holdb = leb-true m.holdb 15 (core 1);
          state = leb-true m.state 2 (core 2);
          running = λ e. run_facts (rw e at (range 2)) (t 1) (rw e at (t 2)) (rw e at (t 3)) (rw e at (t 4)) (rw e at (t 5));
          resting = λ e. rw e at (t 6);
        };
        partial = t 7;
      }

  pub state_good : GoodState p s → good_state p s ≡ true
  unfolding good_state in_range
  state_good g =
      let m : Core = s.core in
      let c = g.core in
      let core : core_in_range m ≡ true = le-leb m.holda 15 c.holda and le-leb m.holdb 15 c.holdb and le-leb m.state 2 c.state in
      (le-leb s.clock last_clock g.clock and core and if_running_lem m (λ e. run_range (c.running e)))
      and (either_way (is_running m) (λ e. run_unlisted (c.running e)) (λ e. still_unlisted m.run (c.resting e))
      and (if_running_lem m (λ e. run_rules (c.running e))
      and (if_running_lem m (λ e. run_position (c.running e))
      and (if_running_lem m (λ e. run_cycle (c.running e))
      and (if_running_lem m (λ e. run_watch (c.running e))
      and (if_resting_lem m c.resting
      and (g.partial and refl)))))))
