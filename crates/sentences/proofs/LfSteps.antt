-- One call at two boxes whose lists differ in low frequency bits outside Channel_Stim. Assumes nothing.
use Prim.Native.Nat.{ℕ, zero, suc, ◌+◌}
use mathlib.Core.Path.{◌≡◌, refl, ap₂}
use mathlib.Core.List.{List, ◌++◌}
use lib.Dec.{leb, eqb}
use borrow.Author.Tests.{eq-eqb}
use Rattle.commands.specs.declared.Init.{Init}
use Rattle.commands.specs.Commands.{Command, Command.init, Command.update, Command.stop, Command.single, check_of}
use Rattle.trace.specs.declared.Record.{Record}
use Rattle.model.specs.declared.Profile.{Profile}
use Rattle.model.specs.declared.Run.{Run}
use Rattle.model.specs.declared.Core.{Core}
use Rattle.model.specs.Below.{each_below}
use Rattle.model.specs.Channels.{in_set}
use Rattle.model.specs.Timing.{keeps_modules, keeps_main}
use Rattle.model.specs.Slots.{in_turn, due}
use Rattle.model.specs.State.{is_running}
use Rattle.model.specs.Judgement.{asked, breaks_timing, in_hold, over_limit, refusals, judge}
use Rattle.model.specs.Effects.{Done, with_run, fed, dropped, accept, carry}
use Rattle.model.specs.Ticks.{moved, aged, due_pulse, releases, watched, timed}
use Rattle.model.proofs.Tests.{either_way}
use Rattle.model.proofs.Cases.{quiet}
use Rattle.sentences.specs.LfOutside.{with_lf, SameInside, run_with_lf}

-- a core with another Channel_Lf in its list
abbrev pub core_with_lf : Core → ℕ → Core
core_with_lf m lf = with_run m (run_with_lf m.run lf)

-- two outcomes of a command or of a tick whose cores differ so, and which release the same
pub data Alike : Done → Done → Type 0 where
  alike : (d : Done) (lf : ℕ) → SameInside d.core.run.list lf → Alike d (record { core = core_with_lf d.core lf; records = d.records })

-- one is like itself
itself : (d : Done) → Alike d d
itself d = alike d d.core.run.list.lf (λ i h. refl)

module _ (m : Core) (lf : ℕ) (h : SameInside m.run.list lf) where
  -- ---- a command

  -- it is judged alike
  pub judge_alike : (p : Profile) (k : ℕ) (c : Command) → judge p (core_with_lf m lf) k c ≡ judge p m k c
  unfolding judge refusals breaks_timing asked in_hold over_limit keeps_main
  judge_alike p k (init v) = refl
  judge_alike p k (update count entries) = refl
  judge_alike p k stop = refl
  judge_alike p k (single v) = refl

  -- accepted or not, it leaves two that differ so
  accept_alike : (clock : ℕ) (c : Command) → Alike (accept clock m c) (accept clock (core_with_lf m lf) c)
  unfolding accept asked
  accept_alike clock (init v) = itself _
  accept_alike clock (update count entries) = alike (accept clock m (update count entries)) lf h
  accept_alike clock stop = itself _
  accept_alike clock (single v) = alike (accept clock m (single v)) lf h

  dropped_alike : (clock answer : ℕ) → Alike (dropped clock m answer) (dropped clock (core_with_lf m lf) answer)
  dropped_alike clock answer =
      either_way (eqb answer 9) (λ e. rw e (itself _))
      (λ e.
      rw e
      (either_way (eqb answer 3) (λ f. rw f (alike (quiet m) lf h)) (λ f. rw f (alike (quiet (with_run m (fed m.run))) lf h))))

  pub carry_alike : (clock : ℕ) (c : Command) (answer : ℕ) → Alike (carry clock m c answer) (carry clock (core_with_lf m lf) c answer)
  unfolding carry
  carry_alike clock c answer =
      either_way (eqb answer 0) (λ e. rw e (accept_alike clock c)) (λ e. rw e (dropped_alike clock answer))

  -- an Init with its right check is judged as one that differs so
  pub init_judged : (p : Profile) (v : Init) (other : ℕ)
      → judge p (core_with_lf m lf) (check_of (init (with_lf v other))) (init (with_lf v other)) ≡ judge p m (check_of (init v)) (init v)
  unfolding judge refusals breaks_timing in_hold over_limit keeps_modules keeps_main
  init_judged p v other =
      rw (eq-eqb (check_of (init v)) (check_of (init v)) refl, eq-eqb (check_of (init (with_lf v other))) (check_of (init (with_lf v other))) refl)

  pub init_alike : (clock : ℕ) (v : Init) (other : ℕ) → SameInside v other → (answer : ℕ)
      → Alike (carry clock m (init v) answer) (carry clock (core_with_lf m lf) (init (with_lf v other)) answer)
  unfolding carry accept
  init_alike clock v other g answer =
      either_way (eqb answer 0) (λ e. rw e (alike (accept clock m (init v)) other g)) (λ e. rw e (dropped_alike clock answer))

-- ---- a tick

module _ (r : Run) (lf : ℕ) (h : SameInside r.list lf) where
  -- the same channels are due: of one that is not listed the bit does not matter
  due_alike : (i : ℕ) → due (run_with_lf r lf) i ≡ due r i
  unfolding due in_turn
  due_alike i = either_way (in_set r.list.stim i) (λ e. rw (e, h i e)) (λ e. rw e)

  pulse_alike : (clock i : ℕ) → due_pulse clock (run_with_lf r lf) i ≡ due_pulse clock r i
  pulse_alike clock i = rw (due_alike i)

  releases_alike : (clock : ℕ) → releases clock (run_with_lf r lf) ≡ releases clock r
  unfolding releases
  releases_alike clock = below 8
    where
      below : (n : ℕ) → each_below n (due_pulse clock (run_with_lf r lf)) ≡ each_below n (due_pulse clock r)
      below zero = refl
      below (suc n) = ap₂ (λ (xs ys : List Record). xs ++ ys) (below n) (pulse_alike clock n)

pub timed_alike : (p : Profile) (clock : ℕ) (m : Core) (lf : ℕ) → SameInside m.run.list lf
    → Alike (timed p clock (aged m)) (timed p clock (aged (core_with_lf m lf)))
unfolding timed watched moved
timed_alike p clock m lf h =
    either_way (is_running m)
    (λ e.
    rw e
    (either_way (leb p.watchdog (m.run.watch + 1)) (λ f. rw f (itself _))
    (λ f. rw (f, releases_alike (moved m.run) lf h clock) (alike _ lf h))))
    (λ e. rw e (alike _ lf h))
