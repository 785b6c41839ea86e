-- The ways that a call goes: what holds of each outcome holds of the call's. Assumes nothing.
use Prim.Native.Nat.{ℕ, ◌+◌}
use mathlib.Core.Bool.{true, false}
use mathlib.Core.Path.{◌≡◌}
use mathlib.Core.List.{List, [], ◌∷◌}
use lib.Dec.{leb, eqb}
use borrow.Author.Tests.{eqb-true, eqb-false}
use Rattle.commands.specs.Commands.{Command}
use Rattle.model.specs.declared.Profile.{Profile}
use Rattle.model.specs.declared.Core.{Core}
use Rattle.model.specs.State.{State, is_running}
use Rattle.model.specs.Effects.{Done, tripped, with_run, fed, accept, carry}
use Rattle.model.specs.Arrival.{Result}
use Rattle.model.specs.Ticks.{last_clock, aged, releases, watched, timed, tick_step}
use Rattle.model.specs.Machine.{Call, step, after}
use Rattle.model.proofs.Tests.{either_way}

-- a core, and no records
abbrev pub quiet : Core → Done
quiet m = record { core = m; records = [] }

-- a command is accepted, trips the box, is dropped for its Check, or is dropped and feeds the watchdog, by its answer
pub carry_ways : (P : Done → Type 0) (clock : ℕ) (m : Core) (c : Command) (answer : ℕ)
    → (answer ≡ 0 → P (accept clock m c)) → (answer ≡ 9 → P (tripped clock 1 m)) → (answer ≡ 3 → P (quiet m))
    → ((answer ≡ 0 → ⊥) → (answer ≡ 9 → ⊥) → P (quiet (with_run m (fed m.run))))
    → P (carry clock m c answer)
unfolding carry
carry_ways P clock m c answer accepted trips dropped feeds =
    either_way (eqb answer 0) (λ e. rw e (accepted (eqb-true answer 0 e)))
    (λ e.
    rw e
    (either_way (eqb answer 9) (λ f. rw f (trips (eqb-true answer 9 f)))
    (λ f.
    rw f
    (either_way (eqb answer 3) (λ g. rw g (dropped (eqb-true answer 3 g)))
    (λ g. rw g (feeds (eqb-false answer 0 e) (eqb-false answer 9 f)))))))

-- the same, where the answer does not matter once it is not 0
pub carry_cases : (P : Done → Type 0) (clock : ℕ) (m : Core) (c : Command) (answer : ℕ)
    → (answer ≡ 0 → P (accept clock m c)) → P (tripped clock 1 m) → P (quiet m) → P (quiet (with_run m (fed m.run)))
    → P (carry clock m c answer)
carry_cases P clock m c answer accepted trips dropped feeds =
    carry_ways P clock m c answer accepted (λ e. trips) (λ e. dropped) (λ e f. feeds)

-- a box is not running, reaches the watchdog, or releases the pulses due
pub timed_cases : (P : Done → Type 0) (p : Profile) (clock : ℕ) (m : Core)
    → (is_running m ≡ false → P (quiet m))
    → (is_running m ≡ true → leb p.watchdog m.run.watch ≡ true → P (tripped clock 2 m))
    → (is_running m ≡ true → leb p.watchdog m.run.watch ≡ false → P (record { core = m; records = releases clock m.run }))
    → P (timed p clock m)
unfolding timed watched
timed_cases P p clock m rests trips goes =
    either_way (is_running m)
    (λ e. rw e (either_way (leb p.watchdog m.run.watch) (λ f. rw f (trips e f)) (λ f. rw f (goes e f))))
    (λ e. rw e (rests e))

-- what a tick leaves that is taken
abbrev pub ticked : State → Done → Result
ticked s d =
    record { state = record { clock = s.clock + 1; partial = s.partial; core = d.core }; answer = 0; reply = 0; records = d.records }

-- the clock is at its end, or moves on
pub tick_cases : (P : Result → Type 0) (p : Profile) (s : State)
    → P (record { state = s; answer = 15; reply = 0; records = [] })
    → ((s.clock ≡ last_clock → ⊥) → P (ticked s (timed p (s.clock + 1) (aged s.core))))
    → P (tick_step p s)
unfolding tick_step
tick_cases P p s ends goes =
    either_way (eqb s.clock last_clock) (λ e. rw e ends) (λ e. rw e (goes (eqb-false s.clock last_clock e)))

-- what every call keeps, any calls keep
pub always : (P : State → Type 0) (p : Profile) → ((s : State) (c : Call) → P s → P (step p s c).state)
    → (s : State) → P s → (cs : List Call) → P (after p s cs)
unfolding after
always P p keeps s h [] = h
always P p keeps s h (c ∷ cs) = always P p keeps (step p s c).state (keeps s c h) cs
