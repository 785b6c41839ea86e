use Rattle.std.proofs.Common.{rules}
use Rattle.commands.proofs.Entries.{all_good}
use Rattle.commands.proofs.good_entries.Goals as goal

pub returns : goal.returns
returns c = all_good _ _ _ (search rules)
