-- `framing::put_stuffed` meets its contract. The loop's invariant: the bytes left, put from here on, make what is wanted. Assumes nothing.
use mathlib.Core.Path.{sym, ap, ◌∙◌}
use native.Mathlib.Omega.{arith}
use borrow.Author.Rules.{rules}
use lib.ListN.{length}
use lib.Seq.{sets}
use Rattle.stuffing.specs.Stuffing.{stuffed, stuffed_byte}
use Rattle.stuffing.proofs.Laws.{turn_length, end, stuffed_nil, stuffed_cons}
use Rattle.framing.proofs.Writing.{again}
use Rattle.framing.proofs.put_stuffed.Goals as goal

pub put-to-requires : goal.put-to-requires
put-to-requires c =
    let l = c.loop-b in
    let s = c.args.bytes.now in
    omega (arith, turn_length stuffed_byte stuffed stuffed_nil stuffed_cons s l.b-index (search rules), c.requires)

pub loop-b-preserved : goal.loop-b-preserved
loop-b-preserved c =
    let l = c.loop-b in
    let s = c.args.bytes.now in
    let p = c.put-to in
    let t = again stuffed_byte stuffed stuffed_nil stuffed_cons l.out p.new.out l.to p.result s l.b-index (search rules) p.ensures.0 p.ensures.1 in
    (p.auto.out ∙ l.invariant.0, t.0 ∙ l.invariant.1, t.1 ∙ l.invariant.2)

pub returns : goal.returns
returns c =
    let l = c.loop-b in
    let e = end stuffed_byte stuffed stuffed_nil stuffed_cons c.args.bytes.now l.b-index (search rules) in
    (omega (arith, ap length e, l.invariant.1), sym (ap (sets l.out l.to) e) ∙ l.invariant.2)
