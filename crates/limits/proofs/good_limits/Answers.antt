use Rattle.std.proofs.Common.{◌≡◌, ℕ, Bool, true, ◌&&◌, leb, get_or, sym, rules, tests}
use Rattle.std.proofs.lemmas.Iterator.{YieldsList-from_slice}
use Rattle.std.proofs.lemmas.Iterator.Consumers.{fold_from_yields_List}
use Rattle.std.specs.List.{fold}
use Rattle.model.proofs.Rows.{all_items, all_both, fold_all}
use Rattle.limits.proofs.good_limits.Goals as goal

pub returns : goal.returns
returns c =
    let p = c.args.p in
    let low : ℕ → Bool = λ x. leb x 127 in
    let short : ℕ → Bool = λ x. leb x 500 in
    let currents : c.fold.result ≡ fold (λ b x. b && low x) true p.currents =
    fold_from_yields_List _ (λ b x. b && low x) _ _ c.fold.ensures.ran (YieldsList-from_slice p.currents cc) (λ a x b q k. search (rules, tests)) in
    let widths : c.fold-2.result ≡ fold (λ b x. b && short x) true p.widths =
    fold_from_yields_List _ (λ b x. b && short x) _ _ c.fold-2.ensures.ran (YieldsList-from_slice p.widths cc) (λ a x b q k. search (rules, tests)) in
    rw (currents, widths, fold_all low p.currents, fold_all short p.widths, all_items 0 low p.currents 8 (search rules), all_items 0 short p.widths 8 (search rules))
    (sym (all_both 8 (λ i. low (get_or p.currents i 0)) (λ i. short (get_or p.widths i 0))))
