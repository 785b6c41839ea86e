-- The numbers of refusals. Assumes nothing.
use Rattle.std.proofs.Common.{◌≡◌, arith}
use Rattle.commands.specs.declared.refusals.Refusal.{Refusal}
use Rattle.commands.specs.declared.refusals.Refusal.TheVariants.{Unfinished, LowByte, WrongCheck, NotGood, Timing, NoList, ListRuns, InHold, OverLimit, WhileTripped, ProfileNotGood, BoxNotGood, RingOutside, RingUnknown, ClockAtEnd, OutputTooShort, Cut}
use Rattle.commands.specs.Refusals.{number}

-- no refusal has the number of what is carried out
pub refused : (refusal : Refusal) → number refusal ≡ 0 → ⊥
refused Unfinished e = omega arith
refused LowByte e = omega arith
refused WrongCheck e = omega arith
refused NotGood e = omega arith
refused Timing e = omega arith
refused NoList e = omega arith
refused ListRuns e = omega arith
refused InHold e = omega arith
refused OverLimit e = omega arith
refused WhileTripped e = omega arith
refused ProfileNotGood e = omega arith
refused BoxNotGood e = omega arith
refused RingOutside e = omega arith
refused RingUnknown e = omega arith
refused ClockAtEnd e = omega arith
refused OutputTooShort e = omega arith
refused Cut e = omega arith
