-- What a byte or a tick gives on any record, any buffer and any part (document 01, "Numbers the box answers"): 12, 13, 14, else the
-- machine's step, which answers 15 itself, and its records into the ring.
--
-- `outcome` has the same call as far as the box record goes: `step_of` is handed the verdict of the ring's tests as a number, and hands
-- the records back by value. `call_of` adds the ring: its tests give the verdict, and the records are filed (`CallIsStep`).
use Rattle.std.specs.Prelude.{ℕ, cond, List, eqb}
use Rattle.trace.specs.declared.Part.{Part}
use Rattle.trace.specs.Ring.{ready_answer}
use Rattle.model.specs.Arrival.{Result}
use Rattle.model.specs.Machine.{Call, step}
use Rattle.record.specs.declared.Box.{Box}
use Rattle.record.specs.Box.{state_of, box_of}
use Rattle.said.specs.Said.{said_of}
use Rattle.outcome.specs.Step.{refusal, refused_step}
use Rattle.calls.specs.Filed.{Filed, filed, Answered}

-- 12, 13 or 14, else 0
abbrev pub refusal_of : Box → List ℕ → Part → ℕ
refusal_of b buf at = refusal b (ready_answer buf at b.ring)

-- a refusal leaves all
abbrev pub turned_away : Box → List ℕ → ℕ → Answered
turned_away b buf answer = record { called = record { said = (refused_step answer b).said; next = b }; buf = buf }

-- what the step says, the record that carries its state, and the ring with its records
unfoldable pub step_filed : Box → List ℕ → Part → Result → Answered
step_filed b buf at r =
    let f : Filed = filed at b.ring buf r.records in
    record { called = record { said = said_of r; next = box_of b.profile f.ring r.state }; buf = f.buf }

unfoldable pub call_of : Box → List ℕ → Part → Call → Answered
call_of b buf at c =
    cond (eqb (refusal_of b buf at) 0)
    (step_filed b buf at (step b.profile (state_of b) c))
    (turned_away b buf (refusal_of b buf at))
