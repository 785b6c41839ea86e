-- A decided command leaves a good core good. Assumes nothing.
use Prim.Native.Nat.{ℕ, ◌≤◌, ◌<◌}
use mathlib.Core.Bool.{Bool, true, false, cond}
use mathlib.Core.Path.{◌≡◌, refl}
use mathlib.Core.List.{List}
use native.Mathlib.Omega.{arith}
use lib.Dec.{ltb}
use borrow.Author.Tests.{ltb-false, le-leb, not-false}
use Rattle.commands.specs.declared.Init.{Init}
use Rattle.commands.specs.declared.Setting.{Setting}
use Rattle.commands.specs.declared.Single.{Single}
use Rattle.commands.specs.Ranges.{good_count}
use Rattle.commands.specs.Commands.{Command, Command.init, Command.update, Command.stop, Command.single, good_entries}
use Rattle.commands.proofs.Tests.{both}
use Rattle.frames.proofs.Idents.{for_each_ident, init_here, update_here, stop_here, single_here}
use Rattle.frames.specs.Layout.{command_in}
use Rattle.model.specs.declared.Profile.{Profile}
use Rattle.model.specs.declared.Core.{Core}
use Rattle.model.specs.Timing.{t1, init_timing, update_timing}
use Rattle.model.specs.State.{is_running}
use Rattle.model.specs.Judgement.{asked, breaks_timing, over_limit, judge}
use Rattle.model.specs.Effects.{fed, with_run, accept, carry}
use Rattle.model.proofs.Tests.{◌and◌, not_both}
use Rattle.model.proofs.GoodRuns.{GoodList, list_facts}
use Rattle.model.proofs.GoodStates.{GoodCore}
use Rattle.model.proofs.Settings.{Fits, placed_fits}
use Rattle.model.proofs.Accepted.{accepted}
use Rattle.model.proofs.Cases.{carry_cases}
use Rattle.model.proofs.Runs.{fed_run, waited_run, started_run}
use Rattle.model.proofs.Resting.{fed_zero, rest_core, trip_core}

-- an Init's two channel sets are bytes
abbrev pub Bytes : Command → Type 0
Bytes (init v) = (v.stim ≤ 255) × (v.lf ≤ 255)
Bytes (update count entries) = Unit
Bytes stop = Unit
Bytes (single v) = Unit

-- as a frame gives them
pub bytes_of : (s : List ℕ) (count : ℕ) → Bytes (command_in s count)
bytes_of s count =
    for_each_ident s (λ e. rw (init_here s count e) (omega arith, omega arith)) (λ e. rw (update_here s count e) tt)
    (λ e. rw (stop_here s count e) tt) (λ e. rw (single_here s count e) tt)

-- what an accepted Update asks for fits the list
pub asked_fits : (p : Profile) (m : Core) (k count : ℕ) (entries : List Setting) → judge p m k (update count entries) ≡ 0
    → Fits p m.run.list (asked m (update count entries))
unfolding asked breaks_timing over_limit
asked_fits p m k count entries e =
    let a = accepted p m k (update count entries) e in
    placed_fits p m.run.list entries count (both (good_count count) (good_entries entries count) a.values).1
    (not-false (update_timing m.run.list (asked m (update count entries))) a.timing) a.no_limit

module _ (p : Profile) (fed-in : 0 < p.watchdog) (clock : ℕ) (m : Core) where
  -- with the watchdog fed
  fed_core : GoodCore p clock m → GoodCore p clock (with_run m (fed m.run))
  fed_core g =
      record {
        holda = g.holda;
        holdb = g.holdb;
        state = g.state;
        running = λ e. fed_run fed-in (g.running e);
        resting = λ e. fed_zero m.run (g.resting e);
      }

  -- an accepted Init, Update and Single
  init_core : (k : ℕ) (v : Init) → Bytes (init v) → judge p m k (init v) ≡ 0 → GoodCore p clock (accept clock m (init v)).core
  unfolding accept breaks_timing over_limit
  init_core k v b e =
      let a = accepted p m k (init v) e in
      let l : GoodList p v =
      list_facts p v (a.values and le-leb v.stim 255 b.0 and le-leb v.lf 255 b.1) (not-false (init_timing v) a.timing)
      (le-leb p.shortest (t1 v.main) (ltb-false (t1 v.main) p.shortest a.no_limit)) in
      record {
        holda = omega arith;
        holdb = omega arith;
        state = omega arith;
        running = λ e. started_run clock fed-in l;
        resting = λ e. not_both refl e;
      }

  update_core : (k count : ℕ) (entries : List Setting) → judge p m k (update count entries) ≡ 0 → GoodCore p clock m
      → GoodCore p clock (accept clock m (update count entries)).core
  unfolding accept
  update_core k count entries e g =
      let r : is_running m ≡ true = not-false (is_running m) (accepted p m k (update count entries) e).has_list in
      record {
        holda = g.holda;
        holdb = g.holdb;
        state = g.state;
        running = λ e'. waited_run fed-in (asked_fits p m k count entries e) (g.running e');
        resting = λ e. not_both r e;
      }

  set_hold : (b : Bool) (hold : ℕ) → hold ≤ 15 → (cond b 15 hold ≤ 15) × (cond b hold 15 ≤ 15)
  set_hold true hold h = (omega arith, h)
  set_hold false hold h = (h, omega arith)

  single_core : (v : Single) → GoodCore p clock m → GoodCore p clock (accept clock m (single v)).core
  unfolding accept
  single_core v g =
      let f = fed_core g in
      let a : Bool = ltb v.channel 4 in
      record {
        holda = (set_hold a m.holda g.holda).0;
        holdb = (set_hold a m.holdb g.holdb).1;
        state = f.state;
        running = f.running;
        resting = f.resting;
      }

  -- an accepted command
  accept_core : (k : ℕ) (c : Command) → Bytes c → GoodCore p clock m → judge p m k c ≡ 0 → GoodCore p clock (accept clock m c).core
  unfolding accept
  accept_core k (init v) b g e = init_core k v b e
  accept_core k (update count entries) b g e = update_core k count entries e g
  accept_core k stop b g e = rest_core p clock (omega arith) (omega arith) (omega arith) refl
  accept_core k (single v) b g e = single_core v g

  -- a decided command
  pub carry_core : (k : ℕ) (c : Command) → Bytes c → GoodCore p clock m → GoodCore p clock (carry clock m c (judge p m k c)).core
  carry_core k c b g =
      carry_cases (λ d. GoodCore p clock d.core) clock m c (judge p m k c) (accept_core k c b g)
      (trip_core p clock m g.holda g.holdb) g (fed_core g)
