-- `running::zero_run` meets its contract: the tests of its list stand in another order. Assumes nothing.
use Rattle.std.proofs.Common.{◌≡◌, Bool, ◌&&◌, eqb, arith}
use Rattle.std.proofs.lemmas.Grind.{common_steps}
use Rattle.model.specs.Good.{zero_run}
use Rattle.running.proofs.zero_run.Goals as goal

regrouped : (a b c d e : Bool) → a && (b && (c && (d && e))) ≡ a && b && c && d && e
regrouped a b c d e = grind (arith, common_steps)

pub returns : goal.returns
unfolding zero_run
returns c =
    let v = c.args.r.list in
    rw (c.all_zero-2.ensures, c.all_zero.ensures, c.eq.ensures, regrouped (eqb v.factor 0) (eqb v.stim 0) (eqb v.lf 0) (eqb v.group 0) (eqb v.main 0))
