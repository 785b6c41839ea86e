-- Ticks of a box that is not running, and of one that is tripped. Assumes nothing.
use Prim.Native.Nat.{ℕ, zero, suc, ◌+◌}
use mathlib.Core.Bool.{true, false}
use mathlib.Core.Path.{◌≡◌, refl}
use mathlib.Core.List.{[]}
use Rattle.model.specs.declared.Profile.{Profile}
use Rattle.model.specs.State.{State, is_running, is_tripped}
use Rattle.model.specs.Effects.{Done}
use Rattle.model.specs.Arrival.{Result}
use Rattle.model.specs.Ticks.{aged}
use Rattle.model.specs.Machine.{Call.tick, step, run, after}
use Rattle.model.specs.Claims.{StaysSilent}
use Rattle.model.proofs.Tests.{not_both}
use Rattle.model.proofs.States.{tripped_rests}
use Rattle.model.proofs.Cases.{timed_cases, tick_cases}

-- it releases nothing, and the box is not running after it
pub quiet_tick : (p : Profile) (s : State) → is_running s.core ≡ false
    → ((step p s tick).records ≡ []) × (is_running (step p s tick).state.core ≡ false)
unfolding step
quiet_tick p s e =
    tick_cases (λ (r : Result). (r.records ≡ []) × (is_running r.state.core ≡ false)) p s (refl, e)
    (λ moves.
    timed_cases (λ (d : Done). (d.records ≡ []) × (is_running d.core ≡ false)) p (s.clock + 1) (aged s.core)
    (λ f. (refl, f))
    (λ f g. not_both f e)
    (λ f g. not_both f e))

-- a tripped box is tripped after a tick
pub tripped_tick : (p : Profile) (s : State) → is_tripped s.core ≡ true → is_tripped (step p s tick).state.core ≡ true
unfolding step
tripped_tick p s e =
    tick_cases (λ r. is_tripped r.state.core ≡ true) p s e
    (λ moves. timed_cases (λ d. is_tripped d.core ≡ true) p (s.clock + 1) (aged s.core) (λ f. e) (λ f g. refl) (λ f g. e))

-- so it is after any number of them, and none releases anything
pub stays_silent : (p : Profile) (s : State) → is_tripped s.core ≡ true → (n : ℕ) → StaysSilent p s n
unfolding run after
stays_silent p s e zero = record { still_tripped = e; silent = tt }
stays_silent p s e (suc n) =
    let x = stays_silent p (step p s tick).state (tripped_tick p s e) n in
    record { still_tripped = x.still_tripped; silent = ((quiet_tick p s (tripped_rests s.core.state e)).0, x.silent) }
