-- `charge::all_zero` meets its contract. Assumes nothing.
use Rattle.std.proofs.Common.{◌&&◌, rules, tests, ◌∙◌}
use Rattle.std.proofs.lemmas.Iterator.{YieldsList-from_slice}
use Rattle.std.proofs.lemmas.Iterator.Consumers.{fold_from_yields_List}
use Rattle.charge.specs.Charge.{is_zero_point}
use Rattle.charge.proofs.Points.{all_joined}
use Rattle.charge.proofs.all_zero.Goals as goal

pub returns : goal.returns
unfolding is_zero_point
returns c =
    fold_from_yields_List _ (λ b p. b && is_zero_point p) _ _ c.fold.ensures.ran (YieldsList-from_slice c.args.points.now cc) (λ a x b q k. search (rules, tests))
    ∙ all_joined is_zero_point c.args.points.now
