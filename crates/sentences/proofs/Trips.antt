-- A trip of the machine: what it keeps. Assumes nothing.
use Prim.Native.Nat.{ℕ, ◌+◌, ◌-◌}
use mathlib.Core.Bool.{true, false}
use mathlib.Core.Path.{◌≡◌, refl}
use native.Mathlib.Omega.{arith}
use Rattle.commands.specs.Commands.{Command, Command.init, Command.update, Command.stop, Command.single, ident_of}
use Rattle.frames.specs.Layout.{check_in}
use Rattle.model.specs.declared.Profile.{Profile}
use Rattle.model.specs.declared.Core.{Core}
use Rattle.model.specs.State.{State, no_frame, is_tripped}
use Rattle.model.specs.Judgement.{judge}
use Rattle.model.specs.Effects.{accept}
use Rattle.model.specs.Arrival.{Arrival, Arrival.stray, Arrival.alone, Arrival.growing, Arrival.whole, arrive, command_of, decided, judged, taken, byte_step}
use Rattle.model.specs.Ticks.{aged}
use Rattle.model.specs.Machine.{Call.byte, Call.tick, step}
use Rattle.model.proofs.Tests.{either_way, not_both}
use Rattle.model.proofs.Cases.{carry_ways, ticked, timed_cases, tick_cases}

-- ---- a tick

pub record TickTrip (s t : State) : Type 0 where
  pub partial : t.partial ≡ s.partial
  pub holda : t.core.holda ≡ s.core.holda - 1
  pub holdb : t.core.holdb ≡ s.core.holdb - 1

pub tick_trips : (p : Profile) (s : State) → is_tripped s.core ≡ false → is_tripped (step p s tick).state.core ≡ true
    → TickTrip s (step p s tick).state
unfolding step
tick_trips p s u =
    tick_cases (λ r. is_tripped r.state.core ≡ true → TickTrip s r.state) p s (λ t. not_both t u)
    (λ moves.
    timed_cases (λ d. is_tripped d.core ≡ true → TickTrip s (ticked s d).state) p (s.clock + 1) (aged s.core)
    (λ e t. not_both t u)
    (λ e w t. record { partial = refl; holda = refl; holdb = refl })
    (λ e w t. not_both t u))

-- ---- a byte

-- an accepted command trips nothing
accept_untripped : (clock : ℕ) (m : Core) (c : Command) → is_tripped m ≡ false → is_tripped (accept clock m c).core ≡ false
unfolding accept
accept_untripped clock m (init v) u = refl
accept_untripped clock m (update count entries) u = u
accept_untripped clock m stop u = refl
accept_untripped clock m (single v) u = u

taken_trips : (p : Profile) (s : State) (x : Arrival) → is_tripped s.core ≡ false → is_tripped (taken p s x).state.core ≡ true
    → (taken p s x).answer ≡ 9
unfolding taken judged decided
taken_trips p s stray u = λ t. not_both t u
taken_trips p s alone u = λ t. not_both t u
taken_trips p s (growing q) u = λ t. not_both t u
taken_trips p s (whole bytes) u =
    let c = command_of bytes in
    let a = judge p s.core (check_in bytes) c in
    carry_ways (λ d. is_tripped d.core ≡ true → a ≡ 9) s.clock s.core c a
    (λ e t. not_both t (accept_untripped s.clock s.core c u)) (λ e t. e) (λ e t. not_both t u) (λ e f t. not_both t u)

pub byte_trips : (p : Profile) (s : State) (n : ℕ) → is_tripped s.core ≡ false → is_tripped (step p s (byte n)).state.core ≡ true
    → (step p s (byte n)).answer ≡ 9
unfolding step byte_step
byte_trips p s n = taken_trips p s (arrive s.core s.partial n)

-- answer 9
pub record LimitTrip (s t : State) : Type 0 where
  pub down : is_tripped t.core ≡ true
  pub holda : t.core.holda ≡ s.core.holda
  pub holdb : t.core.holdb ≡ s.core.holdb
  pub partial : t.partial ≡ no_frame

taken_9 : (p : Profile) (s : State) (x : Arrival) → (taken p s x).answer ≡ 9 → LimitTrip s (taken p s x).state
unfolding taken judged decided
taken_9 p s stray h = absurd (omega arith)
taken_9 p s alone h = either_way (is_tripped s.core) (λ e. absurd (omega (arith, rw e at h))) (λ e. absurd (omega (arith, rw e at h)))
taken_9 p s (growing q) h = absurd (omega arith)
taken_9 p s (whole bytes) h =
    let c = command_of bytes in
    let a = judge p s.core (check_in bytes) c in
    carry_ways (λ d. LimitTrip s (decided s.clock (ident_of c) a d).state) s.clock s.core c a
    (λ e. absurd (omega arith))
    (λ e. record { down = refl; holda = refl; holdb = refl; partial = refl })
    (λ e. absurd (omega arith))
    (λ e f. absurd (f h))

pub byte_9 : (p : Profile) (s : State) (n : ℕ) → (step p s (byte n)).answer ≡ 9 → LimitTrip s (step p s (byte n)).state
unfolding step byte_step
byte_9 p s n = taken_9 p s (arrive s.core s.partial n)
