-- What a byte leaves of the partial frame.
use Rattle.std.specs.Prelude.{ℕ, ◌+◌, cond, [], eqb, set, Option, None, Some}
use Rattle.model.specs.State.{no_frame}
use Rattle.record.specs.declared.Box.{Box}
use Rattle.partial.specs.declared.PartialFrame.{PartialFrame}
use Rattle.partial.specs.Partial.{frame_of}
use Rattle.outcome.specs.declared.Stepped.{Stepped}
use Rattle.said.specs.Said.{nothing, records_of}
use Rattle.decided.specs.declared.Decided.{Decided}

-- the frame that is open, if there is one
abbrev pub open_in : PartialFrame → Option PartialFrame
open_in q = cond (eqb q.len 0) None (Some q)

-- one byte more
abbrev pub grown : PartialFrame → ℕ → PartialFrame
grown q n = record { bytes = set q.bytes q.len n; len = q.len + 1; kept = q.kept }

-- 1: the byte is kept
abbrev pub unfinished : Box → PartialFrame → Stepped
unfinished b q =
    record {
      said = record { answer = 1; reply = 0; a = nothing; b = nothing };
      records = records_of [];
      next = record { profile = b.profile; clock = b.clock; core = b.core; partial = q; ring = b.ring };
    }

-- a decided command closes the frame
abbrev pub settled : Box → Decided → Stepped
settled b d =
    record {
      said = d.said;
      records = d.records;
      next = record { profile = b.profile; clock = b.clock; core = d.core; partial = frame_of no_frame; ring = b.ring };
    }
