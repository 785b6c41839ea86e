-- What is promised of the calls, as statements. They are proved in `proofs/Joined` and `proofs/Zero`.
use Rattle.std.specs.Prelude.{ℕ, false, ◌≡◌, List}
use Rattle.trace.specs.declared.Part.{Part}
use Rattle.trace.specs.Ring.{ready_answer}
use Rattle.model.specs.Machine.{Call}
use Rattle.record.specs.declared.Box.{Box}
use Rattle.record.specs.Box.{good_box}
use Rattle.outcome.specs.Step.{step_of}
use Rattle.calls.specs.Making.{zero_box}
use Rattle.calls.specs.Finished.{finished}
use Rattle.calls.specs.Calls.{call_of}

-- a call is the step that is handed the verdict of the ring's own tests, with its records filed
abbrev pub CallIsStep : Type 0
CallIsStep =
    (b : Box) (buf : List ℕ) (at : Part) (c : Call) → call_of b buf at c ≡ finished buf at (step_of b (ready_answer buf at b.ring) c)

-- the record of zeros that a refused making gives is no good box: a call on it answers 12
abbrev pub ZeroNotGood : Type 0
ZeroNotGood = good_box zero_box ≡ false
