-- What a call on any box record gives, where the ring's own tests gave `ring`, 0 if it is ready (document 01, "Numbers the box
-- answers"): 12, then the ring's 13 or 14, else the machine's step, which answers 15 itself.
use Rattle.std.specs.Prelude.{ℕ, cond, [], eqb}
use Rattle.model.specs.Arrival.{Result}
use Rattle.model.specs.Machine.{Call, step}
use Rattle.record.specs.declared.Box.{Box}
use Rattle.record.specs.Box.{state_of, box_of, good_box}
use Rattle.outcome.specs.declared.Stepped.{Stepped}
use Rattle.said.specs.Said.{nothing, said_of, records_of}

-- a refusal leaves all
abbrev pub refused_step : ℕ → Box → Stepped
refused_step answer b = record { said = record { answer = answer; reply = 0; a = nothing; b = nothing }; records = records_of []; next = b }

-- the step's answer and records, and the record that carries its state
unfoldable pub carried : Box → Result → Stepped
carried b r = record { said = said_of r; records = records_of r.records; next = box_of b.profile b.ring r.state }

-- 12, then what the ring's tests gave
abbrev pub refusal : Box → ℕ → ℕ
refusal b ring = cond (good_box b) ring 12

unfoldable pub step_of : Box → ℕ → Call → Stepped
step_of b ring c =
    cond (eqb (refusal b ring) 0) (carried b (step b.profile (state_of b) c)) (refused_step (refusal b ring) b)
