-- The waiting update of a running list. Assumes nothing.
use Prim.Native.Nat.{ℕ}
use mathlib.Core.Bool.{Bool, true, false, ◌&&◌}
use mathlib.Core.Path.{◌≡◌, refl, ap}
use mathlib.Core.List.{List}
use native.Mathlib.Omega.{arith}
use lib.Dec.{leb, eqb}
use borrow.Author.Tests.{eqb-true, eqb-false, lt-leb}
use Rattle.commands.specs.declared.Init.{Init}
use Rattle.commands.specs.declared.Setting.{Setting}
use Rattle.commands.proofs.Tests.{both}
use Rattle.model.specs.declared.Profile.{Profile}
use Rattle.model.specs.declared.Run.{Run}
use Rattle.model.specs.Timing.{keeps_modules, keeps_main, init_timing}
use Rattle.model.specs.Good.{good_list, all_zero, keeps_shortest, position_below, cycle_not_above, watch_below}
use Rattle.model.proofs.Tests.{either_way}
use Rattle.model.proofs.Settings.{zeros_fit}
use Rattle.running.specs.Core.{fits, waiting_fits, good_run}
use Rattle.running.proofs.Fits.{fits_good}

module _ (p : Profile) (v : Init) (waits : ℕ) (waiting : List Setting) where
  -- one waits
  pub one_waits : waits ≡ 1 → fits p v waiting ≡ waiting_fits p v waits waiting
  one_waits e = either_way (fits p v waiting) (λ t. rw (t, e)) (λ t. rw t)

  -- none waits
  pub none_waits : init_timing v ≡ true → (waits ≡ 1 → ⊥) → eqb waits 0 && all_zero waiting ≡ waiting_fits p v waits waiting
  none_waits e n =
      either_way (eqb waits 0)
      (λ t. let z = eqb-true waits 0 t in
      either_way (all_zero waiting)
      (λ u. rw (z, u, fits_good p v waiting (zeros_fit waiting u p v (both (keeps_modules v) (keeps_main v 1) e).1)))
      (λ u. either_way (fits p v waiting) (λ f. rw (z, u, f)) (λ f. rw (z, u, f))))
      (λ t. let d : waits ≡ 0 → ⊥ = eqb-false waits 0 t in
      let l : leb waits 1 ≡ false = lt-leb waits 1 (omega arith) in
      either_way (fits p v waiting) (λ f. rw (t, l, f)) (λ f. rw (t, l, f)))

-- a test that stands for another where the second holds
instead : (a b c d e x : Bool) → (b ≡ true → x ≡ e) → a && b && c && d && x ≡ a && b && c && d && e
instead false b c d e x h = refl
instead true false c d e x h = refl
instead true true c d e x h = ap (λ (y : Bool). c && d && y) (h refl)

-- all of a running list, where the code's test of the waiting update stands for it
pub run_waits : (p : Profile) (clock : ℕ) (r : Run) (x : Bool) → (init_timing r.list ≡ true → x ≡ waiting_fits p r.list r.waits r.waiting)
    → good_list r.list && init_timing r.list && keeps_shortest p r.list && fits p r.list r.settings && x && position_below r && cycle_not_above clock r && watch_below p r
    ≡ good_run p clock r
unfolding good_run
run_waits p clock r x h =
    ap (λ (y : Bool). y && position_below r && cycle_not_above clock r && watch_below p r)
    (instead (good_list r.list) (init_timing r.list) (keeps_shortest p r.list) (fits p r.list r.settings) (waiting_fits p r.list r.waits r.waiting) x h)
