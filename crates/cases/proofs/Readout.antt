use Rattle.std.proofs.Common.{ℕ, ◌≤◌, List}
use native.Mathlib.Omega.{arith}
use Rattle.trace.specs.declared.Part.{Part}
use Rattle.trace.specs.Ring.{read_out, readout_answer}
use Rattle.calls.specs.Readout.{readout_of}
use Rattle.record.specs.declared.Box.{Box}

-- a readout copies no more bytes than the output has
pub copied_fits : (b : Box) (buf : List ℕ) (at : Part) (room : ℕ) → (readout_of b buf at room).used ≤ room
unfolding readout_of read_out readout_answer
copied_fits b buf at room = grind arith
