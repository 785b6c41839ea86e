-- Demand 1. Assumes nothing.
use Prim.Native.Nat.{ℕ, ◌≤◌}
use mathlib.Core.Bool.{true, not}
use mathlib.Core.Path.{◌≡◌, refl, ◌∙◌, sym}
use mathlib.Core.List.{List, [], ◌∷◌}
use lib.Dec.{ltb, eqb}
use lib.ListN.{length, drop, length-append, length-drop}
use lib.Seq.{drop_at}
use borrow.Author.Tests.{eqb-true, ltb-false, not-false}
use native.Mathlib.Omega.{arith}
use Rattle.commands.specs.Answers.{◌when◌, first_of}
use Rattle.commands.specs.Commands.{Command, Command.init, Command.update, Command.stop, Command.single, good}
use Rattle.commands.proofs.Tests.{passed}
use Rattle.commands.proofs.Fits.{update_count}
use Rattle.frames.specs.Bytes.{frame_size, frame}
use Rattle.writers.specs.Writer.{write_answer, wrote, written}
use Rattle.writers.proofs.Rows.{length_update}
use Rattle.trace.specs.declared.Part.{Part}
use Rattle.trace.specs.Ring.{ready_answer}
use Rattle.trace.proofs.Theorems.{calls_keep}
use Rattle.model.specs.declared.Profile.{Profile}
use Rattle.model.specs.Arrival.{Result}
use Rattle.model.specs.Machine.{Call, step}
use Rattle.model.proofs.Tests.{either_way, not_both}
use Rattle.record.specs.declared.Box.{Box}
use Rattle.record.specs.Box.{state_of, good_box}
use Rattle.record.proofs.Carries.{back}
use Rattle.said.specs.Said.{said_of}
use Rattle.outcome.proofs.Calls.{good_taken}
use Rattle.calls.specs.Making.{make_answer, make_of}
use Rattle.calls.specs.Filed.{filed}
use Rattle.calls.specs.Calls.{refusal_of, step_filed, call_of}
use Rattle.calls.proofs.Zero.{zero_not_good}
use Rattle.calls.specs.Readout.{readout_of, readout_bytes}
use Rattle.demands.specs.RoundTrips.{Held}
use Rattle.demands.specs.Demand1.{CallKeeps, ReadoutKeeps, WriterKeeps, MakeRefuses, Demand1}
use Rattle.demands.proofs.Answers.{way, stays}
use Rattle.demands.proofs.Filed.{filed_size, filed_outside}

-- ---- a byte or a tick

module _ (b : Box) (buf : List ℕ) (at : Part) (c : Call) (bytes : length b.partial.bytes ≡ 25) where
  abbrev x : Result
  x = step b.profile (state_of b) c

  -- a step that leaves all
  nothing_done : good_box b ≡ true → x ≡ record { state = state_of b; answer = 15; reply = 0; records = [] }
      → ((step_filed b buf at x).buf ≡ buf) × ((step_filed b buf at x).called.next ≡ b)
  unfolding step_filed filed
  nothing_done g e = rw e (refl, back b bytes g)

  call_keeps : CallKeeps b buf at c
  unfolding call_of step_filed said_of
  call_keeps =
      either_way (eqb (refusal_of b buf at) 0)
      (λ e.
      let good = good_taken b (ready_answer buf at b.ring) (sym (eqb-true (refusal_of b buf at) 0 e)) in
      record {
        size = rw e (filed_size at b.ring buf x.records);
        outside = rw e (filed_outside at b.ring buf x.records);
        refused = rw e (λ l. nothing_done good (stays (way b.profile (state_of b) c) l));
      })
      (λ e. record { size = rw e refl; outside = rw e (λ i o. refl); refused = rw e (λ l. (refl, refl)) })

-- ---- a readout

readout_keeps : (b : Box) (buf : List ℕ) (at : Part) (out : List ℕ) → ReadoutKeeps b buf at out
unfolding readout_of readout_bytes
readout_keeps b buf at out =
    let k = (calls_keep buf at b.ring).1 out in
    either_way (good_box b)
    (λ e. record { size = rw e k.size; past = rw e k.past; refused = rw e (λ l. (k.refused (λ z. not_both l (rw z refl))).1) })
    (λ e. record { size = rw e refl; past = rw e refl; refused = rw e (λ l. refl) })

-- ---- a writer

-- a good command has as many bytes as its size says
frame_size_lem : (c : Command) → Held c → good c ≡ true → length (frame c) ≡ frame_size c
frame_size_lem (init v) h g = refl
frame_size_lem (update count entries) h g = length_update count entries (omega (arith, update_count count entries g))
frame_size_lem stop h g = refl
frame_size_lem (single v) h g = refl

writer_keeps : (c : Command) (out : List ℕ) → Held c → WriterKeeps c out
unfolding wrote written
writer_keeps c out h =
    either_way (eqb (write_answer c out) 0)
    (λ e.
    let z : write_answer c out ≡ 0 = eqb-true (write_answer c out) 0 e in
    let t = passed (not (good c)) 4 (first_of (16 when ltb (length out) (frame_size c) ∷ [])) (omega arith) z in
    let n = frame_size_lem c h (not-false (good c) t.0) in
    let fits : frame_size c ≤ length out = ltb-false (length out) (frame_size c) (passed (ltb (length out) (frame_size c)) 16 0 (omega arith) t.1).0 in
    record {
      size = rw e (length-append (frame c) (drop (frame_size c) out) ∙ omega (arith, n, fits, length-drop (frame_size c) out));
      past = rw e (drop_at (frame c) (drop (frame_size c) out) (frame_size c) n);
      refused = λ l. not_both l (rw z refl);
    })
    (λ e. record { size = rw e refl; past = rw e refl; refused = rw e (λ l. refl) })

-- ---- the making of a box

make_refuses : (p : Profile) (capacity : ℕ) → MakeRefuses p capacity
unfolding make_of
make_refuses p capacity =
    either_way (eqb (make_answer p capacity) 0)
    (λ e. record { zero = rw e (λ l. not_both l (rw (eqb-true (make_answer p capacity) 0 e) refl)); not_good = zero_not_good })
    (λ e. record { zero = rw e (λ l. refl); not_good = zero_not_good })

pub demand1 : Demand1
demand1 = record { calls = call_keeps; readouts = readout_keeps; makings = make_refuses; writers = writer_keeps; pushes = calls_keep }
