-- A box that is not running, or trips, has its zeros. Assumes nothing.
use Prim.Native.Nat.{ℕ, ◌≤◌}
use mathlib.Core.Bool.{Bool, true, false, ◌&&◌}
use mathlib.Core.Path.{◌≡◌, refl}
use native.Mathlib.Omega.{arith}
use lib.Dec.{eqb}
use Rattle.commands.proofs.Tests.{both}
use Rattle.model.specs.declared.Profile.{Profile}
use Rattle.model.specs.declared.Run.{Run}
use Rattle.model.specs.declared.Core.{Core}
use Rattle.model.specs.State.{by_state, still}
use Rattle.model.specs.Effects.{fed, trip}
use Rattle.model.specs.Good.{zero_list, all_zero, zero_run}
use Rattle.model.proofs.Tests.{◌and◌, not_both}
use Rattle.model.proofs.GoodStates.{GoodCore}

-- the zeros of a box that is not running, also with the watchdog fed
still_zero : zero_run still ≡ true
unfolding zero_run
still_zero = refl

pub fed_zero : (r : Run) → zero_run r ≡ true → zero_run (fed r) ≡ true
unfolding zero_run
fed_zero r e =
    let settings : Bool = zero_list r.list && all_zero r.settings && eqb r.waits 0 && all_zero r.waiting in
    (both (settings && eqb r.position 0 && eqb r.cycle 0) (eqb r.watch 0) e).0 and refl

-- a core with these zeros; a trip keeps the holds
module _ (p : Profile) (clock : ℕ) where
  pub rest_core : {a b k : ℕ} → a ≤ 15 → b ≤ 15 → k ≤ 2 → by_state k false true false ≡ false
      → GoodCore p clock (record { holda = a; holdb = b; state = k; run = still })
  rest_core a b k e = record { holda = a; holdb = b; state = k; running = λ f. not_both f e; resting = λ f. still_zero }

  pub trip_core : (m : Core) → m.holda ≤ 15 → m.holdb ≤ 15 → GoodCore p clock (trip m)
  trip_core m a b = rest_core a b (omega arith) refl
