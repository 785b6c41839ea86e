-- What a call of a good box releases: at most two records. Assumes nothing.
use Prim.Native.Nat.{ℕ, ◌+◌, ◌≤◌, ◌<◌}
use mathlib.Core.Bool.{Bool, true, false, cond}
use mathlib.Core.Path.{◌≡◌}
use mathlib.Core.List.{List, [], ◌∷◌, ◌++◌}
use native.Mathlib.Omega.{arith}
use lib.Dec.{leb, ltb}
use lib.ListN.{length, length-append}
use borrow.Author.Tests.{leb-true}
use Rattle.commands.specs.Ranges.{good_pulse}
use Rattle.commands.specs.Commands.{Command, Command.init, Command.update, Command.stop, Command.single, ident_of, good}
use Rattle.commands.proofs.Tests.{both}
use Rattle.frames.specs.Layout.{check_in}
use Rattle.trace.specs.declared.Record.{Record}
use Rattle.trace.specs.declared.Record.TheVariants.{Answer, Trip}
use Rattle.model.specs.declared.Profile.{Profile}
use Rattle.model.specs.declared.Run.{Run}
use Rattle.model.specs.declared.Core.{Core}
use Rattle.model.specs.Timing.{keeps_modules}
use Rattle.model.specs.Slots.{felt, first_due}
use Rattle.model.specs.State.{State}
use Rattle.model.specs.Judgement.{judge}
use Rattle.model.specs.Effects.{pulse, accept, carry}
use Rattle.model.specs.Arrival.{Arrival, Arrival.stray, Arrival.alone, Arrival.growing, Arrival.whole, command_of, decided, judged, taken, arrive, byte_step}
use Rattle.model.specs.Ticks.{moved, aged, releases, timed}
use Rattle.model.specs.Machine.{Call, Call.byte, Call.tick, step}
use Rattle.model.specs.Claims.{pulse_at}
use Rattle.model.proofs.GoodStates.{GoodCore, GoodState}
use Rattle.model.proofs.Accepted.{accepted}
use Rattle.model.proofs.Cases.{carry_cases, timed_cases, tick_cases}
use Rattle.model.proofs.Places.{due_within, two_pulses}

-- what a command releases behind its 01: nothing, a Single's pulse, or a trip
pub data Behind : List Record → Type 0 where
  nothing : Behind []
  a_pulse : (clock i width current : ℕ) → i < 8 → Behind (pulse clock i width current ∷ [])
  a_trip : (clock cause : ℕ) → Behind (Trip clock cause ∷ [])

-- what a call releases: what a command does, behind an 01 or, in a tick, alone; or the pulses of a channel of A and one of B
pub data Releases : List Record → Type 0 where
  bare : {xs : List Record} → Behind xs → Releases xs
  behind : (clock k answer : ℕ) {xs : List Record} → Behind xs → Releases (Answer clock k answer ∷ xs)
  due : (clock : ℕ) (r : Run) (i j : ℕ) → (i < 8 → i < 4) → (j < 8 → 4 ≤ j) → Releases (pulse_at clock r i ++ pulse_at clock r j)

-- ---- a byte

accept_behind : (clock : ℕ) (m : Core) (c : Command) → good c ≡ true → Behind (accept clock m c).records
unfolding accept
accept_behind clock m (init v) g = nothing
accept_behind clock m (update count entries) g = nothing
accept_behind clock m stop g = nothing
accept_behind clock m (single v) g = on (felt v.width v.current) where
  on : (b : Bool) → Behind (cond b (pulse clock v.channel v.width v.current ∷ []) [])
  on true =
      let h = leb-true v.channel 7 (both (leb v.channel 7) (good_pulse v.width v.current) g).0 in
      a_pulse clock v.channel v.width v.current (omega arith)
  on false = nothing

carry_behind : (p : Profile) (clock : ℕ) (m : Core) (k : ℕ) (c : Command) → Behind (carry clock m c (judge p m k c)).records
carry_behind p clock m k c =
    carry_cases (λ d. Behind d.records) clock m c (judge p m k c)
    (λ e. accept_behind clock m c (accepted p m k c e).values) (a_trip clock 1) nothing nothing

taken_releases : (p : Profile) (s : State) (a : Arrival) → Releases (taken p s a).records
unfolding taken decided judged
taken_releases p s stray = bare nothing
taken_releases p s alone = behind s.clock 1 _ nothing
taken_releases p s (growing q) = bare nothing
taken_releases p s (whole bytes) =
    let c : Command = command_of bytes in
    behind s.clock (ident_of c) _ (carry_behind p s.clock s.core (check_in bytes) c)

-- ---- a tick

releases_due : (clock : ℕ) (r : Run) → keeps_modules r.list ≡ true → Releases (releases clock r)
releases_due clock r e =
    rw (two_pulses clock r e)
    (due clock r (first_due r 0 4) (first_due r 4 4) (λ h. (due_within r 0 4 h).1) (λ h. (due_within r 4 4 h).0))

timed_releases : (p : Profile) (clock : ℕ) (m : Core) → GoodCore p clock m → Releases (timed p (clock + 1) (aged m)).records
unfolding moved
timed_releases p clock m g =
    timed_cases (λ d. Releases d.records) p (clock + 1) (aged m) (λ e. bare nothing) (λ e w. bare (a_trip (clock + 1) 2))
    (λ e w. rw e (releases_due (clock + 1) (moved m.run) (g.running e).list.modules))

-- ---- any call

pub step_releases : (p : Profile) (s : State) (c : Call) → GoodState p s → Releases (step p s c).records
unfolding step byte_step
step_releases p s (byte n) g = taken_releases p s (arrive s.core s.partial n)
step_releases p s tick g =
    tick_cases (λ r. Releases r.records) p s (bare nothing) (λ h. timed_releases p s.clock s.core g.core)

-- one record or none
one_or_none : (b : Bool) (x : Record) → length (cond b (x ∷ []) []) ≤ 1
one_or_none true x = omega arith
one_or_none false x = omega arith

-- a place holds one pulse or none
place_few : (clock : ℕ) (r : Run) (i : ℕ) → length (pulse_at clock r i) ≤ 1
place_few clock r i = one_or_none (ltb i 8) _

behind_few : {xs : List Record} → Behind xs → length xs ≤ 1
behind_few nothing = omega arith
behind_few (a_pulse clock i width current h) = omega arith
behind_few (a_trip clock cause) = omega arith

pub few : {xs : List Record} → Releases xs → length xs ≤ 2
few (bare b) = omega (arith, behind_few b)
few (behind clock k answer b) = omega (arith, behind_few b)
few (due clock r i j f g) =
    rw length-append (omega (arith, place_few clock r i, place_few clock r j))
