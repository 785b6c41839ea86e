use native.Mathlib.Omega.{arith}
use mathlib.Core.Path.{◌∙◌}
use Rattle.bits.proofs.Fields.{field_above, field_whole}
use Rattle.bits.proofs.take_field.Goals as goal

pub returns-then-low-ge64 : goal.returns-then-low-ge64
returns-then-low-ge64 c = let a = c.args in field_above a.w a.low a.width (omega arith) c.if-low-ge64.true

pub returns-then-width-ge64 : goal.returns-then-width-ge64
returns-then-width-ge64 c =
    let a = c.args in
    c.bits_from.ensures ∙ field_whole a.w a.low a.width (omega arith) c.if-width-ge64.true

pub returns : goal.returns
returns c = c.low_bits.ensures ∙ rw c.bits_from-2.ensures
