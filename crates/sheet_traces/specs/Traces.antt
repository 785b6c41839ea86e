-- Request 03 on a unit's own trace: no sheet of it is refused with 4 or 14. Each statement is proved in `proofs/Theorems`.
use Rattle.std.specs.Prelude.{ℕ, ◌+◌, ◌*◌, ◌≤◌, true, ◌≡◌, List, length}
use Rattle.trace.specs.Ring.{held_in}
use Rattle.model.specs.declared.Profile.{Profile}
use Rattle.model.specs.State.{fresh}
use Rattle.model.specs.Machine.{Call, run}
use Rattle.demands.specs.FreshBox.{trace}
use Rattle.demands.specs.History.{last, History, at_first}
use Rattle.recorded.specs.Ranges.{all_in_range}
use Rattle.sheet.specs.Calls.{readout_sheet, written}

-- Whatever is sent to document 01's machine, each field of each record that it releases is in its range.
abbrev pub RecordsInRange : Type 0
RecordsInRange = (p : Profile) (cs : List Call) → all_in_range (trace (run p fresh cs)) ≡ true

-- Whatever is sent to a unit, the trace that its ring holds is written as a sheet: it splits, and each field of each record is in its range.
abbrev pub TracesWritten : Type 0
TracesWritten =
    (p : Profile) (h : History p) (out : List ℕ)
    → let r : List ℕ = held_in (last (at_first h) h.turns).bytes (last (at_first h) h.turns).box.ring in
    44 + 4 * length r ≤ length out → written r (length out) ≡ record { answer = 0; used = length (readout_sheet r) }
