-- `decimal::value` meets its contract. The loop's invariant: the rest of the digits makes the whole number. Assumes nothing.
use Rattle.decimal.proofs.Reading.{Reading}
use Rattle.decimal.proofs.value.Given as goal

abbrev pub invariant-loop-digit : goal.invariant-loop-digit
invariant-loop-digit l = Reading l.digits l.value l.digit-index
