-- `stuffing::stuffed_size` meets its contract. The loop's invariant: n and what the bytes left become make the whole. Assumes nothing.
use mathlib.Core.Path.{ap}
use native.Mathlib.Nat.{zero-add}
use native.Mathlib.Omega.{arith}
use borrow.Author.Rules.{rules}
use lib.ListN.{length}
use Rattle.stuffing.specs.Stuffing.{stuffed, stuffed_byte}
use Rattle.stuffing.proofs.Laws.{turn_length, end, stuffed_nil, stuffed_cons, size_le}
use Rattle.stuffing.proofs.stuffed_size.Goals as goal

pub loop-b-init : goal.loop-b-init
loop-b-init c = (search rules, zero-add _)

pub overflow_add-n : goal.overflow_add-n
overflow_add-n c = let small = size_le _ c.size-n.result c.size-n.ensures in record { fits = omega arith }

pub loop-b-preserved : goal.loop-b-preserved
loop-b-preserved c =
    let l = c.loop-b in
    let s = c.args.bytes.now in
    (omega (arith, size_le _ c.size-n.result c.size-n.ensures), omega (arith, c.size-n.ensures, turn_length stuffed_byte stuffed stuffed_nil stuffed_cons s l.b-index (search rules)))

pub returns : goal.returns
returns c =
    let l = c.loop-b in
    omega (arith, ap length (end stuffed_byte stuffed stuffed_nil stuffed_cons c.args.bytes.now l.b-index (search rules)))
