use Rattle.std.proofs.Common.{rules, tests, ◌∙◌}
use Rattle.std.proofs.lemmas.Iterator.{YieldsList-from_slice}
use Rattle.std.proofs.lemmas.Iterator.Search.{all_from_yields_List}
use Rattle.commands.specs.Commands.{good_setting}
use Rattle.reader.proofs.Listed.{each_listed}
use Rattle.reader.proofs.reading.good_listed.Goals as goal

pub returns : goal.returns
returns c =
    all_from_yields_List good_setting _ _ _ c.all.ensures.ran (YieldsList-from_slice c.args.listed.now cc) (λ x b q k. search (rules, tests))
    ∙ each_listed c.args.listed.now
