-- What it means that a running list is good, fact by fact. Assumes nothing.
use Prim.Native.Nat.{ℕ, ◌≤◌, ◌<◌}
use mathlib.Core.Bool.{true, not, ◌&&◌}
use mathlib.Core.Path.{◌≡◌}
use mathlib.Core.List.{[], ◌∷◌}
use native.Mathlib.Omega.{arith}
use lib.Dec.{leb, eqb}
use borrow.Author.Tests.{leb-true, ltb-true, eqb-false, not-true, le-leb, lt-ltb, ne_eqb}
use Rattle.commands.specs.declared.Init.{Init}
use Rattle.commands.specs.Ranges.{within}
use Rattle.commands.specs.Commands.{good_init}
use Rattle.commands.proofs.Tests.{both}
use Rattle.model.specs.declared.Profile.{Profile}
use Rattle.model.specs.declared.Run.{Run}
use Rattle.model.specs.Timing.{t1, keeps_modules, keeps_main, init_timing, update_timing}
use Rattle.model.specs.Profiles.{over_limits}
use Rattle.model.specs.Good.{good_list, all_good, good_waits, run_in_range, only_listed, unlisted_zero, keeps_timing, keeps_shortest, keeps_profile, position_below, cycle_not_above, watch_below}
use Rattle.model.proofs.Tests.{◌and◌, each}
use Rattle.model.proofs.Settings.{Fits}

-- a number in its range
pub record Within (low x high : ℕ) : Type 0 where
  pub least : low ≤ x
  pub most : x ≤ high

pub in_range_lem : (low x high : ℕ) → within low x high ≡ true → Within low x high
in_range_lem low x high e =
    let p = both (leb low x) (leb x high) e in
    record { least = leb-true low x p.0; most = leb-true x high p.1 }

range_in : {low x high : ℕ} → Within low x high → within low x high ≡ true
range_in {low} {x} {high} w = le-leb low x w.least and le-leb x high w.most

-- good values, both timing rules with n = 1, and the profile's shortest t1
pub record GoodList (p : Profile) (v : Init) : Type 0 where
  pub factor : v.factor ≤ 7
  pub stim : Within 1 v.stim 255
  pub lf : v.lf ≤ 255
  pub group : Within 3 v.group 29
  pub main : Within 4 v.main 2045
  pub modules : keeps_modules v ≡ true
  pub once : keeps_main v 1 ≡ true
  pub shortest : p.shortest ≤ t1 v.main

-- a running list with its settings and its waiting update
pub record GoodRun (p : Profile) (clock : ℕ) (r : Run) : Type 0 where
  pub list : GoodList p r.list
  pub settings : Fits p r.list r.settings
  pub waiting : Fits p r.list r.waiting
  pub waits : good_waits r.waits r.waiting ≡ true
  pub position : r.position < t1 r.list.main
  pub cycle : r.cycle ≤ clock
  pub watch : r.watch < p.watchdog

-- the list's tests
module _ (p : Profile) (v : Init) where
  pub list_facts : good_list v ≡ true → init_timing v ≡ true → leb p.shortest (t1 v.main) ≡ true → GoodList p v
  list_facts e f g =
      let t =
      each (leb v.factor 7)
      (not (eqb v.stim 0) ∷ within 3 v.group 29 ∷ within 4 v.main 2045 ∷ leb v.stim 255 ∷ leb v.lf 255 ∷ []) e in
      let some : v.stim ≡ 0 → ⊥ = eqb-false v.stim 0 (not-true (eqb v.stim 0) (t 1)) in
      let i = both (keeps_modules v) (keeps_main v 1) f in
      record {
        factor = leb-true v.factor 7 (t 0);
        stim = record { least = omega arith; most = leb-true v.stim 255 (t 4) };
        lf = leb-true v.lf 255 (t 5);
        group = in_range_lem 3 v.group 29 (t 2);
        main = in_range_lem 4 v.main 2045 (t 3);
        modules = i.0;
        once = i.1;
        shortest = leb-true p.shortest (t1 v.main) g;
      }

  pub list_good : GoodList p v → good_list v ≡ true
  list_good g =
      let some : not (eqb v.stim 0) ≡ true = rw (ne_eqb v.stim 0 (omega arith)) in
      let init : good_init v ≡ true = le-leb v.factor 7 g.factor and some and range_in g.group and range_in g.main in
      init and le-leb v.stim 255 g.stim.most and le-leb v.lf 255 g.lf

-- the run's tests
module _ {p : Profile} {clock : ℕ} {r : Run} where
  pub run_facts : run_in_range r ≡ true → unlisted_zero r ≡ true → keeps_timing r && keeps_profile p r ≡ true
      → position_below r ≡ true → cycle_not_above clock r ≡ true → watch_below p r ≡ true → GoodRun p clock r
  unfolding run_in_range unlisted_zero keeps_timing keeps_profile
  run_facts e f g position cycle watch =
      let range = each (good_list r.list) (all_good r.settings ∷ all_good r.waiting ∷ good_waits r.waits r.waiting ∷ []) e in
      let unlisted = both (only_listed r.list.stim r.settings) (only_listed r.list.stim r.waiting) f in
      let rules = both (keeps_timing r) (keeps_profile p r) g in
      let times = each (init_timing r.list) (update_timing r.list r.settings ∷ update_timing r.list r.waiting ∷ []) rules.0 in
      let limits =
      each (keeps_shortest p r.list) (not (over_limits p r.settings) ∷ not (over_limits p r.waiting) ∷ []) rules.1 in
      record {
        list = list_facts p r.list (range 0) (times 0) (limits 0);
        settings = record { values = range 1; unlisted = unlisted.0; timing = times 1; no_limit = not-true _ (limits 1) };
        waiting = record { values = range 2; unlisted = unlisted.1; timing = times 2; no_limit = not-true _ (limits 2) };
        waits = range 3;
        position = ltb-true r.position (t1 r.list.main) position;
        cycle = leb-true r.cycle clock cycle;
        watch = ltb-true r.watch p.watchdog watch;
      }

  module _ (g : GoodRun p clock r) where
    pub run_range : run_in_range r ≡ true
    unfolding run_in_range
    run_range = list_good p r.list g.list and g.settings.values and g.waiting.values and g.waits

    pub run_unlisted : unlisted_zero r ≡ true
    unfolding unlisted_zero
    run_unlisted = g.settings.unlisted and g.waiting.unlisted

    pub run_rules : keeps_timing r && keeps_profile p r ≡ true
    unfolding keeps_timing keeps_profile
    run_rules =
        let list = g.list in
        let first : not (over_limits p r.settings) ≡ true = rw g.settings.no_limit in
        let second : not (over_limits p r.waiting) ≡ true = rw g.waiting.no_limit in
        (list.modules and list.once and g.settings.timing and g.waiting.timing)
        and (le-leb p.shortest (t1 r.list.main) list.shortest and first and second)

    pub run_position : position_below r ≡ true
    run_position = lt-ltb r.position (t1 r.list.main) g.position

    pub run_cycle : cycle_not_above clock r ≡ true
    run_cycle = le-leb r.cycle clock g.cycle

    pub run_watch : watch_below p r ≡ true
    run_watch = lt-ltb r.watch p.watchdog g.watch
