use Prim.Native.Nat.{◌≤◌}
use mathlib.Core.Bool.{and-true}
use borrow.Author.Tests.{le-leb}
use borrow.Author.Rules.{rules}
use Rattle.running.proofs.good_list.Goals as goal

pub returns : goal.returns
returns c =
    let v = c.args.v in
    let stim-fits : v.stim ≤ 255 = search rules in
    let lf-fits : v.lf ≤ 255 = search rules in
    simp (le-leb v.stim 255 stim-fits, le-leb v.lf 255 lf-fits, and-true) c.good_init.ensures
