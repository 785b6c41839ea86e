-- What follows from document 01's machine, as statements. Each is proved in `proofs/Theorems`.
use Rattle.std.specs.Prelude.{ℕ, ◌+◌, ◌≤◌, ◌<◌, true, false, cond, ◌≡◌, List, [], ◌∷◌, ◌++◌, ltb, length, get_or, replicate}
use Rattle.commands.specs.declared.Init.{Init}
use Rattle.commands.specs.declared.Setting.{Setting}
use Rattle.commands.specs.Commands.{no_setting}
use Rattle.trace.specs.declared.Record.{Record}
use Rattle.model.specs.declared.Profile.{Profile}
use Rattle.model.specs.declared.Run.{Run}
use Rattle.model.specs.Profiles.{good_profile}
use Rattle.model.specs.Channels.{in_set}
use Rattle.model.specs.Timing.{keeps_modules}
use Rattle.model.specs.Slots.{in_turn, first_due}
use Rattle.model.specs.State.{State, is_running, is_tripped, still, fresh}
use Rattle.model.specs.Effects.{pulse}
use Rattle.model.specs.Ticks.{releases}
use Rattle.model.specs.Machine.{Call, Call.tick, Outcome, step, after, run}
use Rattle.model.specs.Good.{good_state}

-- a call leaves a good state good, and so a box grown from a fresh one by any calls is good
abbrev pub StepKeepsGood : Type 0
StepKeepsGood = (p : Profile) (s : State) (c : Call) → good_profile p ≡ true → good_state p s ≡ true → good_state p (step p s c).state ≡ true

abbrev pub AlwaysGood : Type 0
AlwaysGood = (p : Profile) (cs : List Call) → good_profile p ≡ true → good_state p (after p fresh cs) ≡ true

-- the zeros of a box that is not running hold after every call
abbrev pub Zeros : State → Type 0
Zeros s = is_running s.core ≡ false → s.core.run ≡ still

abbrev pub StepKeepsZeros : Type 0
StepKeepsZeros = (p : Profile) (s : State) (c : Call) → Zeros s → Zeros (step p s c).state

abbrev pub AlwaysZeros : Type 0
AlwaysZeros = (p : Profile) (cs : List Call) → Zeros (after p fresh cs)

-- a box that is not running releases nothing in a tick, and is not running after it
abbrev pub QuietAtRest : Type 0
QuietAtRest =
    (p : Profile) (s : State) → is_running s.core ≡ false
    → ((step p s tick).records ≡ []) × (is_running (step p s tick).state.core ≡ false)

-- none of some calls releases anything
abbrev pub Silent : List Outcome → Type 0
Silent [] = Unit
Silent (o ∷ os) = (o.records ≡ []) × Silent os

-- a tripped box stays tripped under ticks alone, however many, those at the clock's end among them, and they release nothing
pub record StaysSilent (p : Profile) (s : State) (n : ℕ) : Type 0 where
  pub still_tripped : is_tripped (after p s (replicate n tick)).core ≡ true
  pub silent : Silent (run p s (replicate n tick))

abbrev pub SilentOnceTripped : Type 0
SilentOnceTripped = (p : Profile) (s : State) → is_tripped s.core ≡ true → (n : ℕ) → StaysSilent p s n

-- N_Factor counts skips: a low frequency channel lets so many cycles pass, pulses in the next, and begins again
pub record Skips (v : Init) (i : ℕ) : Type 0 where
  pub skipped : (cycle : ℕ) → cycle < v.factor → in_turn v cycle i ≡ false
  pub then_pulses : in_turn v v.factor i ≡ true
  pub again : (cycle : ℕ) → in_turn v (cycle + (v.factor + 1)) i ≡ in_turn v cycle i

abbrev pub CountsSkips : Type 0
CountsSkips = (v : Init) (i : ℕ) → in_set v.lf i ≡ true → Skips v i

-- the pulse of a channel; none where the channel's number is 8
abbrev pub pulse_at : ℕ → Run → ℕ → List Record
pulse_at clock r i =
    let x : Setting = get_or r.settings i no_setting in cond (ltb i 8) (pulse clock i x.width x.current ∷ []) []

-- where the list keeps the first timing rule, the pulses due are those of the first due channel of A and of B, in this order, and no more
abbrev pub TwoPlaces : Type 0
TwoPlaces =
    (clock : ℕ) (r : Run) → keeps_modules r.list ≡ true
    → releases clock r ≡ pulse_at clock r (first_due r 0 4) ++ pulse_at clock r (first_due r 4 4)

-- a call releases at most two records
abbrev pub AtMostTwo : Type 0
AtMostTwo = (p : Profile) (s : State) (c : Call) → good_state p s ≡ true → length (step p s c).records ≤ 2
