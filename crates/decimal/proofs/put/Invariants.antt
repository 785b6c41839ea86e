-- `decimal::put` meets its contract. The loop's invariant: the digits left, and those behind them, make what is wanted. Assumes nothing.
use Rattle.decimal.proofs.Digits.{Putting}
use Rattle.decimal.proofs.put.Given as goal

abbrev pub invariant-loop-to : goal.invariant-loop-to
invariant-loop-to l = Putting l.n l.left l.to l.out
