use Prim.Native.Nat.{◌+◌, ◌%◌}
use mathlib.Core.Path.{◌≡◌, ◌∙◌}
use Rattle.std.proofs.Common.{rules}
use Rattle.std.specs.List.{fold}
use Rattle.checks.proofs.Reduced.{one_by_one}
use Rattle.checks.proofs.remainder_of.Goals as goal

pub returns : goal.returns
returns c =
    let a = c.args in
    let e : c.fold.result ≡ fold (λ r x. (r + x) % 32) a.remainder a.variables.now = search rules in
    e ∙ one_by_one a.remainder a.variables.now
