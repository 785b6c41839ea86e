-- Document 01, "Numbers the box answers": the number of each refusal, and 0 where a call is carried out.
use Rattle.std.specs.Prelude.{ℕ, Result, Ok, Err}
use Rattle.commands.specs.declared.Wrote.{Wrote}
use Rattle.commands.specs.declared.refusals.Refusal.{Refusal}
use Rattle.commands.specs.declared.refusals.Refusal.TheVariants.{Unfinished, LowByte, WrongCheck, NotGood, Timing, NoList, ListRuns, InHold, OverLimit, WhileTripped, ProfileNotGood, BoxNotGood, RingOutside, RingUnknown, ClockAtEnd, OutputTooShort, Cut}

abbrev pub number : Refusal → ℕ
number Unfinished = 1
number LowByte = 2
number WrongCheck = 3
number NotGood = 4
number Timing = 5
number NoList = 6
number ListRuns = 7
number InHold = 8
number OverLimit = 9
number WhileTripped = 10
number ProfileNotGood = 11
number BoxNotGood = 12
number RingOutside = 13
number RingUnknown = 14
number ClockAtEnd = 15
number OutputTooShort = 16
number Cut = 17

abbrev pub answer : {A : Type 0} → Result A Refusal → ℕ
answer (Ok _) = 0
answer (Err refusal) = number refusal

-- what a writer reports: its answer and the bytes written, of which a refused one has none
abbrev pub report : Result ℕ Refusal → Wrote
report (Ok used) = record { answer = 0; used = used }
report (Err refusal) = record { answer = number refusal; used = 0 }
