use Prim.Native.Nat.{◌≤◌}
use native.Mathlib.Nat.{mul-le-mul}
use native.Mathlib.Omega.{arith}
use borrow.Author.Rules.{rules}
use Rattle.limits.proofs.over_at.Goals as goal

pub overflow_mul-charge : goal.overflow_mul-charge
overflow_mul-charge c =
    let x = c.args.x in
    let a : x.current ≤ 255 = search rules in
    let b : x.width ≤ 65535 = search rules in
    omega (arith, mul-le-mul a b)
