-- `reader2::Rehastim2::length_right` meets its contract. Assumes nothing.
use native.Mathlib.Omega.{arith}
use Rattle.reader2.proofs.Header.{length_short, length_whole}
use Rattle.reader2.proofs.Rehastim2Protocol62.length_right.Goals as goal

pub returns-then-body-lt4 : goal.returns-then-body-lt4
returns-then-body-lt4 c = length_short c.args.body.now (omega arith)

pub returns : goal.returns
returns c = length_whole c.args.body.now
