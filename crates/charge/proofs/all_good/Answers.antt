-- `charge::all_good` meets its contract. Assumes nothing.
use Rattle.std.proofs.Common.{◌&&◌, rules, tests, ◌∙◌}
use Rattle.std.proofs.lemmas.Iterator.{YieldsList-from_slice}
use Rattle.std.proofs.lemmas.Iterator.Consumers.{fold_from_yields_List}
use Rattle.charge.specs.Charge.{point_good}
use Rattle.charge.proofs.Points.{all_joined}
use Rattle.charge.proofs.all_good.Goals as goal

pub returns : goal.returns
returns c =
    fold_from_yields_List _ (λ b p. b && point_good p) _ _ c.fold.ensures.ran (YieldsList-from_slice c.args.points.now cc) (λ a x b q k. search (rules, tests))
    ∙ all_joined point_good c.args.points.now
