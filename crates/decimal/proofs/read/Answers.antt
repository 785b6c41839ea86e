-- `decimal::read` meets its contract. Assumes nothing.
use Rattle.std.proofs.Common.{inl, inr, arith, ◌∙◌}
use Rattle.std.proofs.lemmas.Bool.Decides.{nat_tests}
use Rattle.decimal.proofs.Front.{near}
use Rattle.decimal.proofs.Reading.{all_front, refused, given, too_great}
use Rattle.decimal.proofs.read.Goals as goal
use Rattle.decimal.proofs.read.Goals.{in_default-via-then-digits-lt2, in_default-via-else-digits-lt2+in_default-1}

pub value-requires : goal.value-requires
value-requires c = all_front _ _ c.digits_in_front-digits.ensures

pub returns-in_ok-value-in_default : goal.returns-in_ok-value-in_default
returns-in_ok-value-in_default c =
    given _ _ c.digits_in_front-digits.ensures
    (elim c.in_default.branch [ in_default-via-then-digits-lt2 w ↦ inl (grind (arith, nat_tests)) | in_default-via-else-digits-lt2+in_default-1 w ↦ inr (grind (arith, nat_tests), λ e. grind (arith, nat_tests)) ])
    _ c.in_ok-value-in_default.ensures
    ∙ near c.args.s.now _ cc

pub returns-in_err-value-in_default : goal.returns-in_err-value-in_default
returns-in_err-value-in_default c =
    c.from_residual.ensures
    ∙ too_great _ _ c.digits_in_front-digits.ensures
    (elim c.in_default.branch [ in_default-via-then-digits-lt2 w ↦ inl (grind (arith, nat_tests)) | in_default-via-else-digits-lt2+in_default-1 w ↦ inr (grind (arith, nat_tests), λ e. grind (arith, nat_tests)) ])
    c.in_err-value-in_default.ensures
    ∙ near c.args.s.now _ cc

pub returns-in-empty : goal.returns-in-empty
returns-in-empty c = refused _ _ c.digits_in_front-digits.ensures (inl (omega arith)) ∙ near c.args.s.now _ cc

pub returns-in-empty-2 : goal.returns-in-empty-2
returns-in-empty-2 c = refused _ _ c.digits_in_front-digits.ensures (inr (omega arith, grind (arith, nat_tests))) ∙ near c.args.s.now _ cc
