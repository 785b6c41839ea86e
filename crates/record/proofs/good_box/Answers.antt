use Prim.Native.Nat.{◌≤◌}
use mathlib.Core.Path.{sym}
use borrow.Author.Rules.{rules}
use Rattle.record.proofs.Joins.{box_joined}
use Rattle.record.proofs.good_box.Goals as goal

pub returns : goal.returns
returns c =
    let clock-fits : c.args.b.now.clock ≤ 4294967295 = search rules in
    rw (c.good_partial.ensures, c.good_core.ensures, c.good_ring.ensures, c.good_profile.ensures)
    (sym (box_joined c.args.b.now clock-fits))
