-- `decimal::count` meets its contract: the number lies between two powers of ten. Assumes nothing.
use Rattle.std.proofs.Common.{arith, ◌∙◌, ap, ◌+◌}
use Rattle.decimal.proofs.Digits.{digits_log, ten_at_most}
use Rattle.decimal.proofs.count.Goals as goal

pub returns : goal.returns
returns c =
    let e = c.checked_ilog10.ensures in
    let l = digits_log c.args.n _ e.none e.power_le e.next_power_gt in
    let k = ap (λ n. n + 1) c.unwrap_or.ensures ∙ l in
    (k, omega (arith, k, ten_at_most c.args.n))
