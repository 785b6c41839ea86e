-- The claims of `specs/Claims`, proved. Assumes nothing.
use mathlib.Core.Bool.{true}
use mathlib.Core.Path.{◌≡◌, refl}
use Rattle.model.specs.State.{fresh}
use Rattle.model.specs.Good.{good_state}
use Rattle.model.specs.Claims.{StepKeepsGood, AlwaysGood, Zeros, StepKeepsZeros, AlwaysZeros, QuietAtRest, SilentOnceTripped, CountsSkips, TwoPlaces, AtMostTwo}
use Rattle.model.proofs.GoodStates.{state_facts, state_good}
use Rattle.model.proofs.Cases.{always}
use Rattle.model.proofs.Runs.{watchdog_pos}
use Rattle.model.proofs.Steps.{step_good, fresh_good}
use Rattle.model.proofs.Zeros.{step_zero}
use Rattle.model.proofs.Quiet.{quiet_tick, stays_silent}
use Rattle.model.proofs.Turn.{skips}
use Rattle.model.proofs.Places.{two_pulses}
use Rattle.model.proofs.Few.{step_releases, few}

pub step_keeps_good : StepKeepsGood
step_keeps_good p s c w g = state_good (step_good p (watchdog_pos p w) s (state_facts g) c)

pub always_good : AlwaysGood
always_good p cs w = always (λ s. good_state p s ≡ true) p (λ s c. step_keeps_good p s c w) fresh (fresh_good p) cs

pub step_keeps_zeros : StepKeepsZeros
step_keeps_zeros = step_zero

pub always_zeros : AlwaysZeros
always_zeros p = always Zeros p (step_keeps_zeros p) fresh (λ e. refl)

pub quiet_at_rest : QuietAtRest
quiet_at_rest = quiet_tick

pub silent_once_tripped : SilentOnceTripped
silent_once_tripped = stays_silent

pub counts_skips : CountsSkips
counts_skips = skips

pub two_places : TwoPlaces
two_places = two_pulses

pub at_most_two : AtMostTwo
at_most_two p s c g = few (step_releases p s c (state_facts g))
