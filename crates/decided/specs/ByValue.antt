-- A decided command, by value.
use Rattle.std.specs.Prelude.{ℕ}
use Rattle.model.specs.declared.Core.{Core}
use Rattle.model.specs.Effects.{dropped}
use Rattle.model.specs.Arrival.{Result, decided}
use Rattle.said.specs.Said.{said_of, records_of}
use Rattle.decided.specs.declared.Decided.{Decided}

-- a command that is not carried out
abbrev pub drop_frame : ℕ → Core → ℕ → ℕ → Result
drop_frame clock m k answer = decided clock k answer (dropped clock m answer)

-- what a decided command gives back, by value
unfoldable pub by_value : Result → Decided
by_value r = record { said = said_of r; records = records_of r.records; core = r.state.core }
