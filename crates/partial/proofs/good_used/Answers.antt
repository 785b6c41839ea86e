use mathlib.Core.Path.{◌≡◌, sym}
use native.Mathlib.Omega.{arith}
use lib.ListN.{length}
use borrow.Author.Rules.{rules}
use Rattle.model.specs.Good.{good_partial}
use Rattle.partial.proofs.Partials.{open_record}
use Rattle.partial.proofs.good_used.Goals as goal

pub returns-then-len-eq0 : goal.returns-then-len-eq0
unfolding good_partial
returns-then-len-eq0 c = rw c.if-len-eq0.true

pub returns : goal.returns
returns c =
    let some = c.if-len-eq0.false in
    let q = c.args.q in
    let sized : length q.bytes ≡ 25 = search rules in
    rw (c.good_size.ensures, c.ident_of.ensures, c.all_low.ensures, c.is_high.ensures)
    (sym (open_record c.args.m q.kept q.len q.bytes (omega (arith, some)) (omega (arith, sized))))
