use Rattle.std.proofs.Common.{◌≡◌, length, rules, tests, arith, ◌∙◌}
use Rattle.std.proofs.lemmas.Iterator.{YieldsList-from_range}
use Rattle.std.proofs.lemmas.Iterator.Consumers.{YieldsList-from_filter, count_from_yields_List}
use Rattle.std.specs.List.{filter, range_with_len}
use Rattle.model.specs.Channels.{in_set}
use Rattle.model.proofs.Turns.{many_most}
use Rattle.model.proofs.Rows.{many_listed}
use Rattle.timing.proofs.count_in.Goals as goal

pub returns : goal.returns
returns c =
    let a = c.args in
    let count : c.count.result ≡ length (filter (in_set a.set) (range_with_len a.first a.n)) =
    count_from_yields_List c.filter.result _ c.count.ensures.ran
    (YieldsList-from_filter _ _ (YieldsList-from_range a.first _ a.n c.filter.ensures.source (omega arith)) c.filter.ensures.closure (λ x r q k. search (rules, tests))) in
    let e = count ∙ many_listed a.set a.first a.n in
    (e, omega (arith, many_most a.set a.first a.n))
