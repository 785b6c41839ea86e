use Rattle.std.proofs.Common.{◌≡◌, eqb, length, drop, rules, tests, ◌∙◌}
use Rattle.std.proofs.lemmas.Iterator.{YieldsList-from_slice}
use Rattle.std.proofs.lemmas.Iterator.Search.{all_from_yields_List}
use Rattle.std.proofs.lemmas.List.{take_rest}
use Rattle.std.specs.List.{list_all}
use Rattle.partial.proofs.Zeros.{zeros_all}
use Rattle.partial.proofs.rest_zero.Goals as goal

pub returns : goal.returns
returns c =
    let a = c.args in
    let sized : length a.bytes ≡ 25 = search rules in
    let rest = rw sized at (take_rest a.bytes a.n) in
    let all : c.all.result ≡ list_all (λ b. eqb b 0) (drop a.n a.bytes) =
    all_from_yields_List (λ b. eqb b 0) _ _ _ c.all.ensures.ran (YieldsList-from_slice _ (c.iter.ensures.rest ∙ rest)) (λ x b q k. search (rules, tests)) in
    all ∙ zeros_all _
