-- Document 01, "Bytes": what a byte does.
use Rattle.std.specs.Prelude.{ℕ, ◌/◌, cond, List, [], ◌∷◌, ◌++◌, eqb, length}
use Rattle.bits.specs.High.{high}
use Rattle.commands.specs.Commands.{Command, ident_of}
use Rattle.commands.specs.Reply.{reply}
use Rattle.frames.specs.Layout.{ident_in, size_for, command_in, check_in}
use Rattle.trace.specs.declared.Record.{Record}
use Rattle.trace.specs.declared.Record.TheVariants.{Answer}
use Rattle.model.specs.declared.Profile.{Profile}
use Rattle.model.specs.declared.Core.{Core}
use Rattle.model.specs.Channels.{channels}
use Rattle.model.specs.State.{Partial, no_frame, State, is_running, is_tripped}
use Rattle.model.specs.Judgement.{judge}
use Rattle.model.specs.Effects.{Done, carry}

-- a stray; an Update's first byte answered alone; a frame that goes on; a frame that is whole
pub data Arrival : Type 0 where
  stray : Arrival
  alone : Arrival
  growing : Partial → Arrival
  whole : List ℕ → Arrival

-- a frame of this length is whole, or goes on
unfoldable pub lengthened : List ℕ → ℕ → Arrival
lengthened bytes size = cond (eqb (length bytes) size) (whole bytes) (growing (record { bytes = bytes; size = size }))

-- Update's length is fixed when its first byte arrives. If no list runs then, that byte alone is answered.
abbrev pub opened_update : Core → ℕ → Arrival
opened_update m n =
    cond (is_running m) (growing (record { bytes = n ∷ []; size = size_for 1 (channels m.run.list.stim) })) alone

-- A high byte always opens a frame; an unfinished one is dropped silently.
unfoldable pub opened : Core → ℕ → Arrival
opened m n = cond (eqb (ident_in (n ∷ [])) 1) (opened_update m n) (lengthened (n ∷ []) (size_for (ident_in (n ∷ [])) 1))

-- a low byte goes on with the open frame, if there is one
unfoldable pub followed : Partial → ℕ → Arrival
followed q n = cond (eqb q.size 0) stray (lengthened (q.bytes ++ n ∷ []) q.size)

unfoldable pub arrive : Core → Partial → ℕ → Arrival
arrive m q n = cond (high n) (opened m n) (followed q n)

-- what a call leaves, answers and replies, and the records that it releases
pub record Result : Type 0 where
  pub state : State
  pub answer : ℕ
  pub reply : ℕ
  pub records : List Record

-- Within a call the 01 stands first; the partial frame is dropped
unfoldable pub decided : ℕ → ℕ → ℕ → Done → Result
decided clock k answer d =
    record {
      state = record { clock = clock; partial = no_frame; core = d.core };
      answer = answer;
      reply = reply k answer;
      records = Answer clock k answer ∷ d.records;
    }

-- a whole frame's bytes, of which an Update has 1 + 3 per listed channel
abbrev pub command_of : List ℕ → Command
command_of s = command_in s (length s / 3)

unfoldable pub judged : Profile → ℕ → Core → ℕ → Command → Result
judged p clock m k c = let a : ℕ = judge p m k c in decided clock (ident_of c) a (carry clock m c a)

unfoldable pub taken : Profile → State → Arrival → Result
taken p s stray = record { state = s; answer = 2; reply = 0; records = [] }
taken p s alone = decided s.clock 1 (cond (is_tripped s.core) 10 6) (record { core = s.core; records = [] })
taken p s (growing q) =
    record { state = record { clock = s.clock; partial = q; core = s.core }; answer = 1; reply = 0; records = [] }
taken p s (whole bytes) = judged p s.clock s.core (check_in bytes) (command_of bytes)

unfoldable pub byte_step : Profile → State → ℕ → Result
byte_step p s n = taken p s (arrive s.core s.partial n)
