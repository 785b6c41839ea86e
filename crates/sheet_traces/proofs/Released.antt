-- What a call releases is in range, and so is all that calls release one after the other. Assumes nothing.
use Prim.Native.Nat.{ℕ, ◌+◌, ◌≤◌, ◌<◌}
use mathlib.Core.Bool.{true}
use mathlib.Core.Path.{◌≡◌, refl}
use mathlib.Core.List.{List, [], ◌∷◌, ◌++◌}
use native.Mathlib.Omega.{arith}
use lib.Dec.{leb}
use lib.ListN.{get_or}
use borrow.Author.Tests.{leb-true}
use Rattle.commands.specs.declared.Setting.{Setting}
use Rattle.commands.specs.Answers.{◌when◌}
use Rattle.commands.specs.Ranges.{good_pulse}
use Rattle.commands.specs.Commands.{Command, Command.init, Command.update, Command.stop, Command.single, ident_of, no_setting, good_setting, good}
use Rattle.commands.specs.Reply.{is_decision}
use Rattle.commands.proofs.Tests.{both, first_passes}
use Rattle.model.specs.declared.Profile.{Profile}
use Rattle.model.specs.declared.Run.{Run}
use Rattle.model.specs.declared.Core.{Core}
use Rattle.model.specs.Channels.{in_set}
use Rattle.model.specs.Timing.{t2}
use Rattle.model.specs.Slots.{slot, in_turn, felt, hits, due}
use Rattle.model.specs.State.{State, is_tripped}
use Rattle.model.specs.Judgement.{over_limit, refusals, judge}
use Rattle.model.specs.Effects.{accept, carry}
use Rattle.model.specs.Arrival.{Arrival, Arrival.stray, Arrival.alone, Arrival.growing, Arrival.whole, decided, judged, taken, arrive, byte_step}
use Rattle.model.specs.Ticks.{last_clock, aged, due_pulse, releases, timed}
use Rattle.model.specs.Machine.{Call, Call.byte, Call.tick, step, run}
use Rattle.model.specs.Good.{all_good}
use Rattle.model.proofs.Tests.{each, either_way}
use Rattle.model.proofs.Below.{each_below_lem}
use Rattle.model.proofs.Accepted.{accepted}
use Rattle.model.proofs.Cases.{carry_cases, timed_cases, tick_cases}
use Rattle.demands.specs.FreshBox.{trace}
use Rattle.recorded.specs.Ranges.{good_ident, all_in_range}
use Rattle.sheet_traces.proofs.Ranges.{append_in, each_in, answer_before, trip_alone, pulse_if}
use Rattle.sheet_traces.proofs.Values.{GoodRows, GoodValues, aged_rows, step_values}

-- ---- a byte

two_bits : (c : Command) → good_ident (ident_of c) ≡ true
two_bits (init v) = refl
two_bits (update count entries) = refl
two_bits stop = refl
two_bits (single v) = refl

decides : (p : Profile) (m : Core) (k : ℕ) (c : Command) → is_decision (judge p m k c) ≡ true
unfolding judge refusals
decides p m k c = first_passes is_decision (refusals m k c ++ 9 when over_limit p m c ∷ []) refl refl

module _ (clock : ℕ) (h : clock ≤ last_clock) where
  accept_in : (m : Core) (c : Command) → good c ≡ true → all_in_range (accept clock m c).records ≡ true
  unfolding accept all_in_range
  accept_in m (init v) g = refl
  accept_in m (update count entries) g = refl
  accept_in m stop g = refl
  accept_in m (single v) g =
      let t = both (leb v.channel 7) (good_pulse v.width v.current) g in
      pulse_if clock h (felt v.width v.current) v.channel v.width v.current (omega (arith, leb-true v.channel 7 t.0)) t.1 (λ e. e)

  carry_in : (p : Profile) (m : Core) (k : ℕ) (c : Command) → all_in_range (carry clock m c (judge p m k c)).records ≡ true
  unfolding all_in_range
  carry_in p m k c =
      carry_cases (λ d. all_in_range d.records ≡ true) clock m c (judge p m k c) (λ e. accept_in m c (accepted p m k c e).values)
      (trip_alone clock h 1 refl) refl refl

  judged_in : (p : Profile) (m : Core) (k : ℕ) (c : Command) → all_in_range (judged p clock m k c).records ≡ true
  unfolding judged decided
  judged_in p m k c = answer_before clock h (ident_of c) (judge p m k c) _ (two_bits c) (decides p m k c) (carry_in p m k c)

  -- ---- a tick

  due_in : (r : Run) → all_good r.settings ≡ true → (i : ℕ) → i < 8 → all_in_range (due_pulse clock r i) ≡ true
  unfolding due all_good
  due_in r g i n =
      let x : Setting = get_or r.settings i no_setting in
      let good : good_setting x ≡ true = each_below_lem 8 (λ i. good_setting (get_or r.settings i no_setting)) g i n in
      pulse_if clock h (due r i) i x.width x.current n (both (leb x.mode 2) (good_pulse x.width x.current) good).1
      (λ e.
      each (in_set r.list.stim i)
      (in_turn r.list r.cycle i ∷ felt x.width x.current ∷ hits r.position (slot r.list.stim i) (t2 r.list.group) x.mode ∷ []) e 2)

  timed_in : (p : Profile) (m : Core) → GoodRows m.run → all_in_range (timed p clock m).records ≡ true
  unfolding all_in_range releases
  timed_in p m g =
      timed_cases (λ d. all_in_range d.records ≡ true) p clock m (λ e. refl) (λ e w. trip_alone clock h 2 refl)
      (λ e w. each_in 8 (due_pulse clock m.run) (due_in m.run g.0))

-- ---- any call

taken_in : (p : Profile) (s : State) → GoodValues s → (a : Arrival) → all_in_range (taken p s a).records ≡ true
unfolding taken decided all_in_range
taken_in p s g stray = refl
taken_in p s g alone =
    answer_before s.clock g.clock 1 _ [] refl (either_way (is_tripped s.core) (λ e. rw e) (λ e. rw e)) refl
taken_in p s g (growing q) = refl
taken_in p s g (whole bytes) = judged_in s.clock g.clock p s.core _ _

step_in : (p : Profile) (s : State) (c : Call) → GoodValues s → all_in_range (step p s c).records ≡ true
unfolding step byte_step all_in_range
step_in p s (byte n) g = taken_in p s g (arrive s.core s.partial n)
step_in p s tick g =
    tick_cases (λ r. all_in_range r.records ≡ true) p s refl
    (λ moves. timed_in (s.clock + 1) (omega (arith, g.clock)) p (aged s.core) (aged_rows s.core g.rows))

pub run_in : (p : Profile) (s : State) → GoodValues s → (cs : List Call) → all_in_range (trace (run p s cs)) ≡ true
unfolding run all_in_range
run_in p s g [] = refl
run_in p s g (c ∷ cs) =
    append_in (step p s c).records (trace (run p (step p s c).state cs)) (step_in p s c g) (run_in p (step p s c).state (step_values p s c g) cs)
