-- A ring that is ready, a step by value, its records filed: joined, they are the call. Assumes nothing.
use Prim.Native.Nat.{ℕ}
use mathlib.Core.Path.{◌≡◌, refl, sym}
use mathlib.Core.List.{List}
use lib.Dec.{eqb}
use borrow.Author.Tests.{eqb-true}
use Rattle.trace.specs.declared.Part.{Part}
use Rattle.trace.specs.Ring.{ready_answer}
use Rattle.model.specs.Arrival.{Result}
use Rattle.model.specs.Machine.{Call, step}
use Rattle.model.proofs.Tests.{either_way}
use Rattle.record.specs.declared.Box.{Box}
use Rattle.record.specs.Box.{state_of, box_of}
use Rattle.outcome.specs.declared.Stepped.{Stepped}
use Rattle.said.specs.Said.{records_of}
use Rattle.outcome.specs.Step.{refused_step, carried, step_of}
use Rattle.outcome.specs.Claims.{row}
use Rattle.outcome.proofs.Theorems.{none_lost}
use Rattle.calls.specs.declared.Called.{Called}
use Rattle.calls.specs.Filed.{filed}
use Rattle.calls.specs.Finished.{finished}
use Rattle.calls.specs.Calls.{refusal_of, turned_away, step_filed, call_of}
use Rattle.calls.specs.Claims.{CallIsStep}

module _ (b : Box) (buf : List ℕ) (at : Part) where
  -- a step that loses no record
  taken : (r : Result) → row (records_of r.records) ≡ r.records → finished buf at (carried b r) ≡ step_filed b buf at r
  unfolding finished step_filed carried box_of
  taken r e = rw e

  -- a refusal has no record
  left : (answer : ℕ) → finished buf at (refused_step answer b) ≡ turned_away b buf answer
  unfolding finished filed
  left answer = refl

pub call_is_step : CallIsStep
unfolding call_of step_of carried
call_is_step b buf at c =
    either_way (eqb (refusal_of b buf at) 0)
    (λ e.
    let n = (none_lost b (ready_answer buf at b.ring) c (eqb-true (refusal_of b buf at) 0 e)).records in
    rw e (sym (taken b buf at (step b.profile (state_of b) c) (rw e at n))))
    (λ e. rw e (sym (left b buf at (refusal_of b buf at))))

-- what the ring's tests answer, the step that follows from it, and what is filed
pub call_done : (b : Box) (buf : List ℕ) (at : Part) (c : Call) {ready : ℕ} {t : Stepped} {called : Called} {out : List ℕ}
    → ready ≡ ready_answer buf at b.ring → t ≡ step_of b ready c → (called ≡ (finished buf at t).called) × (out ≡ (finished buf at t).buf)
    → (called ≡ (call_of b buf at c).called) × (out ≡ (call_of b buf at c).buf)
call_done b buf at c e f h = rw (call_is_step b buf at c, ← e, ← f) h
