use Rattle.std.proofs.Common.{◌≡◌, ℕ, Bool, true, ◌&&◌, refl, rules, tests, ◌∙◌}
use Rattle.std.proofs.lemmas.Iterator.{YieldsList-from_slice}
use Rattle.std.proofs.lemmas.Iterator.Consumers.{YieldsList-from_enumerate, fold_from_yields_List}
use Rattle.std.specs.List.{fold, enumerate_from}
use Rattle.commands.specs.declared.Setting.{Setting}
use Rattle.commands.specs.Commands.{no_setting}
use Rattle.model.proofs.Rows.{all_placed, fold_all}
use Rattle.running.specs.Core.{good_at}
use Rattle.running.proofs.all_good.Goals as goal

pub returns : goal.returns
returns c =
    let a = c.args in
    let test : ℕ × Setting → Bool = λ x. good_at a.stim x.0 x.1 in
    let good : c.fold.result ≡ fold (λ b x. b && test x) true (enumerate_from 0 a.settings) =
    fold_from_yields_List _ (λ b x. b && test x) _ _ c.fold.ensures.ran (YieldsList-from_enumerate (YieldsList-from_slice a.settings cc) cc) (λ b x r q k. search (rules, tests)) in
    good ∙ fold_all test (enumerate_from 0 a.settings) ∙ all_placed no_setting test _ a.settings 8 (search rules) (λ i. refl)
