use Rattle.std.proofs.Common.{◌≡◌, rules, max, map, sym, ◌∙◌}
use Rattle.std.proofs.lemmas.Iterator.{YieldsList-from_slice, YieldsList-from_map}
use Rattle.std.proofs.lemmas.Iterator.Adapters.{option_map_id}
use Rattle.std.proofs.lemmas.Iterator.Consumers.{max_from_yields_List}
use Rattle.std.specs.List.{reduce}
use Rattle.commands.specs.declared.Setting.{Setting}
use Rattle.commands.specs.Commands.{no_setting}
use Rattle.model.specs.Timing.{largest_mode}
use Rattle.model.proofs.Rows.{most_items}
use Rattle.timing.proofs.largest_mode.Goals as goal

pub returns : goal.returns
unfolding largest_mode
returns c =
    let xs = c.args.settings in
    let most : c.max.result ≡ reduce max (map (λ (x : Setting). x.mode) xs) =
    sym (option_map_id _) ∙ max_from_yields_List c.map.result _ c.max.ensures.ran
    (YieldsList-from_map _ _ (YieldsList-from_slice xs cc) c.map.ensures.closure (λ x r q k. search rules)) in
    c.unwrap_or.ensures ∙ rw most (most_items no_setting (λ x. x.mode) xs 8 (search rules))
