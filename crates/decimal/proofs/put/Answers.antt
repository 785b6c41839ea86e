-- `decimal::put` meets its contract. Assumes nothing.
use Rattle.std.proofs.Common.{arith}
use Rattle.decimal.proofs.Digits.{put_turn}
use Rattle.decimal.proofs.put.Goals as goal

pub loop-to-preserved : goal.loop-to-preserved
loop-to-preserved c = let l = c.loop-to in put_turn c.args.n l.left l.to _ l.out (omega (arith, c.loop-to-test.true)) l.invariant
