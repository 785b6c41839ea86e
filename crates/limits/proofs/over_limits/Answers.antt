use Rattle.std.proofs.Common.{◌≡◌, ℕ, Bool, false, ◌||◌, refl, rules, tests, ◌∙◌}
use Rattle.std.proofs.lemmas.Iterator.{YieldsList-from_slice}
use Rattle.std.proofs.lemmas.Iterator.Consumers.{YieldsList-from_enumerate, fold_from_yields_List}
use Rattle.std.specs.List.{fold, enumerate_from}
use Rattle.commands.specs.declared.Setting.{Setting}
use Rattle.commands.specs.Commands.{no_setting}
use Rattle.model.specs.Profiles.{over_at, over_limits}
use Rattle.model.proofs.Rows.{some_placed, fold_some}
use Rattle.limits.proofs.over_limits.Goals as goal

pub returns : goal.returns
unfolding over_limits
returns c =
    let a = c.args in
    let test : ℕ × Setting → Bool = λ x. over_at a.p x.0 x.1 in
    let over : c.fold.result ≡ fold (λ b x. b || test x) false (enumerate_from 0 a.settings) =
    fold_from_yields_List _ (λ b x. b || test x) _ _ c.fold.ensures.ran (YieldsList-from_enumerate (YieldsList-from_slice a.settings cc) cc) (λ b x r q k. search (rules, tests)) in
    over ∙ fold_some test (enumerate_from 0 a.settings) ∙ some_placed no_setting test _ a.settings 8 (search rules) (λ i. refl)
