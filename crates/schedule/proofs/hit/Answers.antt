use Rattle.std.proofs.Common.{◌≡◌, ◌+◌, ◌*◌, ℕ, Bool, eqb, arith, rules, tests, ◌∙◌}
use Rattle.std.proofs.lemmas.Iterator.{YieldsList-from_range}
use Rattle.std.proofs.lemmas.Iterator.Search.{any_from_yields_List}
use Rattle.std.specs.List.{list_any, range_with_len}
use Rattle.model.specs.Slots.{hits}
use Rattle.model.proofs.Rows.{some_counted}
use Rattle.schedule.proofs.hit.Goals as goal

pub returns : goal.returns
unfolding hits
returns c =
    let a = c.args in
    let test : ℕ → Bool = λ p. eqb a.position (a.from + p * a.t) in
    let any : c.any.result ≡ list_any test (range_with_len 0 (a.mode + 1)) =
    any_from_yields_List test _ _ _ c.any.ensures.ran (YieldsList-from_range 0 (a.mode + 1) _ (cc) (omega arith)) (λ x b q k. search (rules, tests)) in
    any ∙ some_counted (a.mode + 1) test
