use Prim.Native.Nat.{ℕ, ◌+◌, ◌*◌, ◌≤◌}
use native.Mathlib.Nat.{mul-le-mul}
use native.Mathlib.Omega.{arith}
use borrow.Author.Rules.{rules}
use Rattle.model.specs.Timing.{keeps_main}
use Rattle.timing.proofs.keeps_main.Goals as goal

product : {m t : ℕ} → m ≤ 255 → t ≤ 1290 → (m + 1) * t ≤ 330240
product {m} h k = let n : m + 1 ≤ 256 = omega arith in mul-le-mul n k

pub overflow_mul-result : goal.overflow_mul-result
overflow_mul-result c =
    let m : c.args.mode ≤ 255 = search rules in
    omega (arith, product m c.group_period.ensures.1)

pub overflow_add-result-2 : goal.overflow_add-result-2
overflow_add-result-2 c =
    let m : c.args.mode ≤ 255 = search rules in
    omega (arith, product m c.group_period.ensures.1)

pub returns : goal.returns
unfolding keeps_main
returns c = rw (c.main_period.ensures, c.group_period.ensures.0)
