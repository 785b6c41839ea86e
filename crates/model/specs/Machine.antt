-- Document 01's machine: calls, one after the other.
use Rattle.std.specs.Prelude.{ℕ, List, [], ◌∷◌}
use Rattle.trace.specs.declared.Record.{Record}
use Rattle.model.specs.declared.Profile.{Profile}
use Rattle.model.specs.State.{State}
use Rattle.model.specs.Arrival.{Result, byte_step}
use Rattle.model.specs.Ticks.{tick_step}

pub data Call : Type 0 where
  byte : ℕ → Call
  tick : Call

unfoldable pub step : Profile → State → Call → Result
step p s (byte n) = byte_step p s n
step p s tick = tick_step p s

-- what a call gives back
pub record Outcome : Type 0 where
  pub answer : ℕ
  pub reply : ℕ
  pub records : List Record

abbrev pub outcome : Result → Outcome
outcome r = record { answer = r.answer; reply = r.reply; records = r.records }

-- the state after some calls, and what each of them gave back
unfoldable pub after : Profile → State → List Call → State
after p s [] = s
after p s (c ∷ cs) = after p (step p s c).state cs

unfoldable pub run : Profile → State → List Call → List Outcome
run p s [] = []
run p s (c ∷ cs) = outcome (step p s c) ∷ run p (step p s c).state cs
