-- A readout as a whole: its report and its output.
use Rattle.std.specs.Prelude.{ℕ, cond, List, ◌++◌, ltb, length, drop}
use Rattle.trace.specs.declared.Part.{Part}
use Rattle.trace.specs.declared.Readout.{Readout}
use Rattle.record.specs.declared.Box.{Box}
use Rattle.calls.specs.Readout.{readout_of, readout_bytes}

-- what a readout reports, and what it leaves in the output
pub record Copied : Type 0 where
  pub report : Readout
  pub output : List ℕ

-- the tail's bytes at the front of the output, or 16 where they have no room
abbrev pub copied : List ℕ → List ℕ → Copied
copied tail out =
    cond (ltb (length out) (length tail))
    (record { report = record { answer = 16; used = 0 }; output = out })
    (record { report = record { answer = 0; used = length tail }; output = tail ++ drop (length tail) out })

-- as the library reads out
abbrev pub read_to : Box → List ℕ → Part → List ℕ → Copied
read_to b buf at out = record { report = readout_of b buf at (length out); output = readout_bytes b buf at out }
