-- The statements of `specs/Traces`, proved. Assumes nothing.
use mathlib.Core.Path.{ap, ◌∙◌}
use mathlib.Core.List.{List}
use native.Mathlib.Omega.{arith}
use lib.ListN.{length}
use Rattle.trace.specs.Rows.{joined}
use Rattle.model.specs.State.{fresh}
use Rattle.model.specs.Machine.{Call, run}
use Rattle.demands.specs.FreshBox.{trace}
use Rattle.demands.specs.History.{calls}
use Rattle.demands.proofs.Demand2.{demand2}
use Rattle.sheet.proofs.Theorems.{writes_in_range}
use Rattle.sheet_traces.specs.Traces.{RecordsInRange, TracesWritten}
use Rattle.sheet_traces.proofs.Values.{fresh_values}
use Rattle.sheet_traces.proofs.Released.{run_in}
use Rattle.sheet_traces.proofs.Tails.{tail_in}
use Rattle.sheet_traces.proofs.Written.{rows_writable}

pub records_in_range : RecordsInRange
records_in_range p cs = run_in p fresh fresh_values cs

-- the ring holds the tail of all records so far
pub traces_written : TracesWritten
traces_written p h out room =
    let cs : List Call = calls h.turns in
    let t = tail_in h.capacity (trace (run p fresh cs)) (records_in_range p cs) in
    let w = rows_writable t.records _ t.in_range_lem ((demand2 p h).ring ∙ ap joined t.bytes) in
    writes_in_range _ (length out) w.splits_all w.in_range_lem (omega (arith, w.fits))
