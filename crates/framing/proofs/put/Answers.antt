-- `framing::put` meets its contract. Assumes nothing.
use mathlib.Core.Path.{sym, ap, ◌∙◌}
use native.Mathlib.Omega.{arith}
use lib.ListN.{length}
use Rattle.stuffing.proofs.Laws.{stuffed_special, stuffed_plain}
use Rattle.framing.proofs.put.Goals as goal

pub put_pair-requires : goal.put_pair-requires
put_pair-requires c =
    let a = c.args in
    let e = stuffed_special a.b (sym c.is_special.ensures ∙ c.if-is_special.true) in
    omega (arith, ap length e)

pub returns-then-is_special : goal.returns-then-is_special
returns-then-is_special c =
    let a = c.args in
    let p = c.put_pair in
    let e = stuffed_special a.b (sym c.is_special.ensures ∙ c.if-is_special.true) in
    (rw e p.ensures.0, rw e p.ensures.1)

pub bounds-out-at : goal.bounds-out-at
bounds-out-at c =
    let a = c.args in
    let e = stuffed_plain a.b (sym c.is_special.ensures ∙ c.if-is_special.false) in
    omega (arith, ap length e)

pub returns-else-is_special : goal.returns-else-is_special
returns-else-is_special c =
    let a = c.args in
    let e = stuffed_plain a.b (sym c.is_special.ensures ∙ c.if-is_special.false) in
    (rw e, rw e)
