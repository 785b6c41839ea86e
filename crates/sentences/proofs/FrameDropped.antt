-- What a call leaves that drops the frame. Assumes nothing.
use Prim.Native.Nat.{ℕ}
use mathlib.Core.Bool.{true, not, false≢true}
use mathlib.Core.Path.{◌≡◌, refl}
use mathlib.Core.List.{List, [], ◌∷◌}
use borrow.Author.Tests.{not-true}
use Rattle.commands.specs.Answers.{is_one_of}
use Rattle.commands.specs.Commands.{Command, ident_of}
use Rattle.frames.specs.Layout.{check_in}
use Rattle.trace.specs.declared.Part.{Part}
use Rattle.trace.specs.declared.Record.TheVariants.{Answer}
use Rattle.trace.specs.Ring.{ready_answer}
use Rattle.model.specs.declared.Profile.{Profile}
use Rattle.model.specs.declared.Run.{Run}
use Rattle.model.specs.declared.Core.{Core}
use Rattle.model.specs.State.{State, no_frame}
use Rattle.model.specs.Judgement.{judge}
use Rattle.model.specs.Effects.{Done, with_run, carry}
use Rattle.model.specs.Arrival.{Arrival, Arrival.stray, Arrival.alone, Arrival.growing, Arrival.whole, Result, arrive, command_of, decided, judged, taken, byte_step}
use Rattle.model.specs.Machine.{Call, Call.byte, Call.tick, step}
use Rattle.model.proofs.Tests.{not_both}
use Rattle.model.proofs.Cases.{carry_ways, tick_cases}
use Rattle.partial.specs.Partial.{frame_of}
use Rattle.record.specs.declared.Box.{Box}
use Rattle.record.specs.Box.{state_of, box_of}
use Rattle.said.specs.Said.{pulse_of, said_of}
use Rattle.outcome.specs.Claims.{stepped}
use Rattle.calls.specs.Calls.{step_filed}
use Rattle.demands.proofs.Filed.{filed_outside, filed_capacity}
use Rattle.sentences.specs.FrameDropped.{dropping, Dropped, DropsFrame}
use Rattle.sentences.proofs.Calls.{call_ways, refusal_passes}

-- ---- the machine

-- a core with this watchdog count
abbrev rewatched : Core → ℕ → Core
rewatched m watch =
    let r : Run = m.run in
    with_run m
    (record { list = r.list; settings = r.settings; waits = r.waits; waiting = r.waiting; position = r.position; cycle = r.cycle; watch = watch })

-- a core of which no more than that count is new, and no record
record Left (m : Core) (d : Done) : Type 0 where
  watch : ℕ
  same_core : d.core ≡ rewatched m watch
  no_record : d.records ≡ []

-- and so the state, without a frame; its record is an 01
record Drops (s : State) (r : Result) : Type 0 where
  watch : ℕ
  same_state : r.state ≡ record { clock = s.clock; partial = no_frame; core = rewatched s.core watch }
  kind : ℕ
  one_record : r.records ≡ Answer s.clock kind r.answer ∷ []

-- an answer that drops the frame is not 0 and not 9
carry_left : (clock : ℕ) (m : Core) (c : Command) (answer : ℕ) → is_one_of dropping answer ≡ true → Left m (carry clock m c answer)
carry_left clock m c answer h =
    carry_ways (Left m) clock m c answer (λ e. absurd (false≢true (rw e at h))) (λ e. absurd (false≢true (rw e at h)))
    (λ e. record { watch = m.run.watch; same_core = refl; no_record = refl })
    (λ e f. record { watch = 0; same_core = refl; no_record = refl })

taken_drops : (p : Profile) (s : State) (x : Arrival) → is_one_of dropping (taken p s x).answer ≡ true → Drops s (taken p s x)
unfolding taken decided judged
taken_drops p s stray h = absurd (false≢true h)
taken_drops p s alone h = record { watch = s.core.run.watch; same_state = refl; kind = 1; one_record = refl }
taken_drops p s (growing q) h = absurd (false≢true h)
taken_drops p s (whole bytes) h =
    let c = command_of bytes in
    let l = carry_left s.clock s.core c (judge p s.core (check_in bytes) c) h in
    record { watch = l.watch; same_state = rw l.same_core; kind = ident_of c; one_record = rw l.no_record }

step_drops : (p : Profile) (s : State) (c : Call) → is_one_of dropping (step p s c).answer ≡ true → Drops s (step p s c)
unfolding step byte_step
step_drops p s (byte n) = taken_drops p s (arrive s.core s.partial n)
step_drops p s tick =
    tick_cases (λ r. is_one_of dropping r.answer ≡ true → Drops s r) p s (λ h. absurd (false≢true h)) (λ moves h. absurd (false≢true h))

-- ---- the box

module _ (b : Box) (buf : List ℕ) (at : Part) (c : Call) where
  given_drops : ready_answer buf at b.ring ≡ 0 → is_one_of dropping (stepped b c).answer ≡ true → Dropped b buf at (step_filed b buf at (stepped b c))
  unfolding step_filed box_of state_of frame_of said_of pulse_of
  given_drops ready h =
      let d = step_drops b.profile (state_of b) c h in
      record {
        unchanged = rw d.same_state
            (record {
              profile = refl;
              clock = refl;
              holda = refl;
              holdb = refl;
              state = refl;
              list = refl;
              settings = refl;
              waits = refl;
              waiting = refl;
              position = refl;
              cycle = refl;
              capacity = filed_capacity at b.ring buf (stepped b c).records ready;
            });
        frame_is_gone = rw d.same_state;
        says_no_pulse = rw d.one_record;
        elsewhere = filed_outside at b.ring buf (stepped b c).records;
      }

pub drops_frame : DropsFrame
unfolding said_of step_filed
drops_frame b buf at c =
    call_ways b buf at (λ r. is_one_of dropping r.called.said.answer ≡ true → Dropped b buf at r) c
    (λ g ready. given_drops b buf at c ready)
    (λ h. not_both h (not-true _ (refusal_passes b buf at (λ a. not (is_one_of dropping a)) refl refl)))
