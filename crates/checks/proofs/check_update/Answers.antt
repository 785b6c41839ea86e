use mathlib.Core.Path.{◌≡◌, ◌∙◌}
use mathlib.Core.List.{[], ◌∷◌}
use Rattle.std.proofs.Common.{rules}
use Rattle.std.specs.List.{fold}
use Rattle.checks.specs.Reduced.{reduced}
use Rattle.checks.proofs.Reduced.{entries_as_one_goes}
use Rattle.checks.proofs.check_update.Goals as goal

pub returns : goal.returns
returns c =
    let s = c.args.settings.now in
    let e : c.fold.result ≡ fold (λ r v. reduced 32 r (v.mode ∷ v.width ∷ v.current ∷ [])) 0 s = search rules in
    c.from.ensures ∙ e ∙ entries_as_one_goes s
