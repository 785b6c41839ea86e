-- `reader3::Rehamove3::length_right` meets its contract. Assumes nothing.
use mathlib.Core.Path.{◌∙◌}
use native.Mathlib.Omega.{arith}
use Rattle.packets3.proofs.Lawful.{length_short, length_over, length_within}
use Rattle.reader3.proofs.Rehamove3Protocol1190.length_right.Goals as goal

pub returns-then-n-lt4 : goal.returns-then-n-lt4
returns-then-n-lt4 c = length_short c.args.body.now (omega arith)

pub returns-then-n-gt-LONGEST : goal.returns-then-n-gt-LONGEST
returns-then-n-gt-LONGEST c = length_over c.args.body.now (omega arith)

pub returns : goal.returns
returns c = c.is_said.ensures ∙ length_within c.args.body.now (omega arith)
