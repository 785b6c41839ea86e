-- A readout of any record's ring (document 01, "Numbers the box answers"): 12, 13, 14, then 16, else the tail, oldest first.
use Rattle.std.specs.Prelude.{ℕ, cond, List}
use Rattle.trace.specs.declared.Part.{Part}
use Rattle.trace.specs.declared.Readout.{Readout}
use Rattle.trace.specs.Ring.{read_out, read_bytes}
use Rattle.record.specs.declared.Box.{Box}
use Rattle.record.specs.Box.{good_box}

unfoldable pub readout_of : Box → List ℕ → Part → ℕ → Readout
readout_of b buf at room = cond (good_box b) (read_out buf at b.ring room) (record { answer = 12; used = 0 })

-- what it leaves in the output
unfoldable pub readout_bytes : Box → List ℕ → Part → List ℕ → List ℕ
readout_bytes b buf at out = cond (good_box b) (read_bytes buf at b.ring out) out
