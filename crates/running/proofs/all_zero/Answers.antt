use Rattle.std.proofs.Common.{◌≡◌, true, ◌&&◌, rules, tests, ◌∙◌}
use Rattle.std.proofs.lemmas.Iterator.{YieldsList-from_slice}
use Rattle.std.proofs.lemmas.Iterator.Consumers.{fold_from_yields_List}
use Rattle.std.specs.List.{fold}
use Rattle.commands.specs.Commands.{no_setting, is_zero}
use Rattle.model.proofs.Rows.{all_items, fold_all}
use Rattle.running.proofs.all_zero.Goals as goal

pub returns : goal.returns
returns c =
    let s = c.args.settings in
    let zero : c.fold.result ≡ fold (λ b x. b && is_zero x) true s =
    fold_from_yields_List _ (λ b x. b && is_zero x) _ _ c.fold.ensures.ran (YieldsList-from_slice s cc) (λ a x b q k. search (rules, tests)) in
    zero ∙ fold_all is_zero s ∙ all_items no_setting is_zero s 8 (search rules)
