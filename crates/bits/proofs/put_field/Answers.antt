use mathlib.Core.Path.{◌∙◌}
use native.Mathlib.Omega.{arith}
use native.Mathlib.Nat.{mod-lt}
use lib.Pow.{pow_pos}
use Rattle.bits.specs.Fields.{below}
use Rattle.bits.proofs.Fields.{below_all}
use Rattle.bits.proofs.put_field.Goals as goal

pub returns-then-width-ge64 : goal.returns-then-width-ge64
returns-then-width-ge64 c = let a = c.args in below_all a.w a.width a.v (omega arith) c.if-width-ge64.true

pub joined-requires : goal.joined-requires
joined-requires c =
    let a = c.args in
    (c.if-width-ge64.false, rw c.low_bits.ensures (mod-lt a.v (pow_pos a.width)))

pub returns : goal.returns
unfolding below
returns c = c.joined.ensures ∙ rw c.low_bits.ensures
