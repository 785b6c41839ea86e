-- `decimal::value` meets its contract. Assumes nothing.
use Rattle.std.proofs.Common.{refl, arith, ◌∙◌}
use Rattle.decimal.proofs.Reading.{all_read, digit, turn, over}
use Rattle.decimal.proofs.value.Goals as goal

pub loop-digit-init : goal.loop-digit-init
loop-digit-init c = record { digits = c.requires; fits = omega arith; value = refl }

pub returns-in_err-checked_mul : goal.returns-in_err-checked_mul
returns-in_err-checked_mul c =
    let l = c.loop-digit in
    c.from_residual.ensures ∙ over _ _ _ l.invariant c.loop-digit-test.true (omega (arith, c.in_err-checked_mul.ensures))

pub overflow_sub-digit : goal.overflow_sub-digit
overflow_sub-digit c = let l = c.loop-digit in (digit _ _ _ l.invariant c.loop-digit-test.true).0

pub returns-in_err-value : goal.returns-in_err-value
returns-in_err-value c =
    let l = c.loop-digit in
    c.from_residual-in_err-value.ensures
    ∙ over _ _ _ l.invariant c.loop-digit-test.true (omega (arith, c.in_err-value.ensures, c.in_ok-checked_mul.ensures))

pub loop-digit-preserved : goal.loop-digit-preserved
loop-digit-preserved c =
    let l = c.loop-digit in
    turn _ _ _ l.invariant c.loop-digit-test.true _
    (omega (arith, c.in_ok-value.ensures, c.in_ok-checked_mul.ensures))
    (omega (arith, c.in_ok-value.ensures, c.in_ok-checked_mul.ensures))

pub returns : goal.returns
returns c = let l = c.loop-digit in all_read _ _ _ l.invariant c.loop-digit-test.false
