-- A call keeps the zeros of a box that is not running. Assumes nothing.
use Prim.Native.Nat.{ℕ, ◌+◌}
use mathlib.Core.Bool.{false, true≢false}
use mathlib.Core.Path.{◌≡◌, refl, ap}
use borrow.Author.Tests.{not-false}
use Rattle.commands.specs.Commands.{Command, Command.init, Command.update, Command.stop, Command.single}
use Rattle.frames.specs.Layout.{check_in}
use Rattle.model.specs.declared.Profile.{Profile}
use Rattle.model.specs.declared.Core.{Core}
use Rattle.model.specs.State.{State, is_running, still}
use Rattle.model.specs.Judgement.{judge}
use Rattle.model.specs.Effects.{fed, with_run, accept, carry}
use Rattle.model.specs.Arrival.{Arrival, Arrival.stray, Arrival.alone, Arrival.growing, Arrival.whole, command_of, decided, judged, taken, arrive, byte_step}
use Rattle.model.specs.Ticks.{aged, timed}
use Rattle.model.specs.Machine.{Call, Call.byte, Call.tick, step}
use Rattle.model.specs.Claims.{Zeros}
use Rattle.model.proofs.Tests.{not_both}
use Rattle.model.proofs.Accepted.{accepted}
use Rattle.model.proofs.Cases.{carry_cases, timed_cases, tick_cases}

-- a core with these zeros
abbrev Zero : Core → Type 0
Zero m = is_running m ≡ false → m.run ≡ still

-- feeding the watchdog keeps them
fed_zero : (m : Core) → Zero m → Zero (with_run m (fed m.run))
fed_zero m z f = ap fed (z f)

-- a command, a byte and a tick keep them; an Update is accepted only by a box that runs
accept_zero : (p : Profile) (clock : ℕ) (m : Core) (k : ℕ) (c : Command) → Zero m → judge p m k c ≡ 0 → Zero (accept clock m c).core
unfolding accept
accept_zero p clock m k (init v) z e = λ f. absurd (true≢false f)
accept_zero p clock m k (update count entries) z e =
    not_both (not-false (is_running m) (accepted p m k (update count entries) e).has_list)
accept_zero p clock m k stop z e = λ f. refl
accept_zero p clock m k (single v) z e = fed_zero m z

carry_zero : (p : Profile) (clock : ℕ) (m : Core) (k : ℕ) (c : Command) → Zero m → Zero (carry clock m c (judge p m k c)).core
carry_zero p clock m k c z =
    carry_cases (λ d. Zero d.core) clock m c (judge p m k c) (accept_zero p clock m k c z) (λ f. refl) z (fed_zero m z)

taken_zero : (p : Profile) (s : State) (a : Arrival) → Zeros s → Zeros (taken p s a).state
unfolding taken decided judged
taken_zero p s stray z = z
taken_zero p s alone z = z
taken_zero p s (growing q) z = z
taken_zero p s (whole bytes) z = carry_zero p s.clock s.core (check_in bytes) (command_of bytes) z

timed_zero : (p : Profile) (clock : ℕ) (m : Core) → Zero m → Zero (timed p clock (aged m)).core
timed_zero p clock m z =
    timed_cases (λ d. Zero d.core) p clock (aged m) (λ e f. rw e (z e)) (λ e w f. refl) (λ e w. not_both e)

pub step_zero : (p : Profile) (s : State) (c : Call) → Zeros s → Zeros (step p s c).state
unfolding step byte_step
step_zero p s (byte n) z = taken_zero p s (arrive s.core s.partial n) z
step_zero p s tick z = tick_cases (λ r. Zeros r.state) p s z (λ h. timed_zero p (s.clock + 1) s.core z)
