-- Under any profile, a box's settings and its waiting update have good values, and its clock is not past its end. Assumes nothing.
use Prim.Native.Nat.{ℕ, ◌+◌, ◌≤◌}
use mathlib.Core.Bool.{Bool, true, false, cond, ◌&&◌}
use mathlib.Core.Path.{◌≡◌, refl}
use mathlib.Core.List.{List}
use native.Mathlib.Omega.{arith}
use lib.Dec.{eqb}
use Rattle.commands.specs.declared.Setting.{Setting}
use Rattle.commands.specs.Commands.{Command, Command.init, Command.update, Command.stop, Command.single}
use Rattle.model.specs.declared.Profile.{Profile}
use Rattle.model.specs.declared.Run.{Run}
use Rattle.model.specs.declared.Core.{Core}
use Rattle.model.specs.Channels.{silence}
use Rattle.model.specs.Timing.{t1}
use Rattle.model.specs.State.{State, is_running, still, fresh}
use Rattle.model.specs.Judgement.{judge}
use Rattle.model.specs.Effects.{accept, carry}
use Rattle.model.specs.Arrival.{Arrival, Arrival.stray, Arrival.alone, Arrival.growing, Arrival.whole, decided, judged, taken, arrive, byte_step}
use Rattle.model.specs.Ticks.{last_clock, moved, aged, timed}
use Rattle.model.specs.Machine.{Call, Call.byte, Call.tick, step}
use Rattle.model.specs.Good.{all_good}
use Rattle.model.proofs.Carried.{asked_fits}
use Rattle.model.proofs.Cases.{carry_cases, timed_cases, tick_cases}

-- good values of the settings, and of those that wait
abbrev pub GoodRows : Run → Type 0
GoodRows r = (all_good r.settings ≡ true) × (all_good r.waiting ≡ true)

pub record GoodValues (s : State) : Type 0 where
  pub clock : s.clock ≤ last_clock
  pub rows : GoodRows s.core.run

silence_good : all_good silence ≡ true
unfolding all_good
silence_good = refl

still_rows : GoodRows still
still_rows = (silence_good, silence_good)

pub fresh_values : GoodValues fresh
fresh_values = record { clock = omega arith; rows = still_rows }

-- ---- a byte

accept_rows : (p : Profile) (clock : ℕ) (m : Core) (k : ℕ) (c : Command) → GoodRows m.run → judge p m k c ≡ 0 → GoodRows (accept clock m c).core.run
unfolding accept
accept_rows p clock m k (init v) g e = still_rows
accept_rows p clock m k (update count entries) g e = (g.0, (asked_fits p m k count entries e).values)
accept_rows p clock m k stop g e = still_rows
accept_rows p clock m k (single v) g e = g

carry_rows : (p : Profile) (clock : ℕ) (m : Core) (k : ℕ) (c : Command) → GoodRows m.run → GoodRows (carry clock m c (judge p m k c)).core.run
carry_rows p clock m k c g =
    carry_cases (λ d. GoodRows d.core.run) clock m c (judge p m k c) (accept_rows p clock m k c g) still_rows g g

taken_values : (p : Profile) (s : State) → GoodValues s → (a : Arrival) → GoodValues (taken p s a).state
unfolding taken decided judged
taken_values p s g stray = g
taken_values p s g alone = record { clock = g.clock; rows = g.rows }
taken_values p s g (growing q) = record { clock = g.clock; rows = g.rows }
taken_values p s g (whole bytes) = record { clock = g.clock; rows = carry_rows p s.clock s.core _ _ g.rows }

-- ---- a tick

one_of_two : (b : Bool) (xs ys : List Setting) → all_good xs ≡ true → all_good ys ≡ true → all_good (cond b xs ys) ≡ true
one_of_two true xs ys e f = e
one_of_two false xs ys e f = f

moved_rows : (r : Run) → GoodRows r → GoodRows (moved r)
unfolding moved
moved_rows r g =
    let over : Bool = eqb (r.position + 1) (t1 r.list.main) in
    (one_of_two (over && eqb r.waits 1) r.waiting r.settings g.1 g.0, one_of_two over silence r.waiting silence_good g.1)

pub aged_rows : (m : Core) → GoodRows m.run → GoodRows (aged m).run
aged_rows m g = by (is_running m)
  where
    by : (b : Bool) → GoodRows (cond b (moved m.run) m.run)
    by true = moved_rows m.run g
    by false = g

timed_rows : (p : Profile) (clock : ℕ) (m : Core) → GoodRows m.run → GoodRows (timed p clock (aged m)).core.run
timed_rows p clock m g =
    let v = aged_rows m g in
    timed_cases (λ d. GoodRows d.core.run) p clock (aged m) (λ e. v) (λ e w. still_rows) (λ e w. v)

-- ---- any call

pub step_values : (p : Profile) (s : State) (c : Call) → GoodValues s → GoodValues (step p s c).state
unfolding step byte_step
step_values p s (byte n) g = taken_values p s g (arrive s.core s.partial n)
step_values p s tick g =
    tick_cases (λ r. GoodValues r.state) p s g
    (λ moves. record { clock = omega (arith, g.clock); rows = timed_rows p (s.clock + 1) s.core g.rows })
