-- `framing::put_pairs` meets its contract. The loop's invariant: the bytes left, put from here on, make what is wanted. Assumes nothing.
use mathlib.Core.Path.{sym, ap, ◌∙◌}
use native.Mathlib.Omega.{arith}
use borrow.Author.Rules.{rules}
use lib.ListN.{length}
use lib.Seq.{sets}
use Rattle.stuffing.specs.Stuffing.{pairs, pair}
use Rattle.stuffing.proofs.Laws.{turn_length, end, pairs_nil, pairs_cons}
use Rattle.framing.proofs.Writing.{again}
use Rattle.framing.proofs.put_pairs.Goals as goal

pub put_pair-to-requires : goal.put_pair-to-requires
put_pair-to-requires c =
    let l = c.loop-b in
    let s = c.args.bytes.now in
    omega (arith, turn_length pair pairs pairs_nil pairs_cons s l.b-index (search rules), c.requires)

pub loop-b-preserved : goal.loop-b-preserved
loop-b-preserved c =
    let l = c.loop-b in
    let s = c.args.bytes.now in
    let p = c.put_pair-to in
    let t = again pair pairs pairs_nil pairs_cons l.out p.new.out l.to p.result s l.b-index (search rules) p.ensures.0 p.ensures.1 in
    (p.auto.out ∙ l.invariant.0, t.0 ∙ l.invariant.1, t.1 ∙ l.invariant.2)

pub returns : goal.returns
returns c =
    let l = c.loop-b in
    let e = end pair pairs pairs_nil pairs_cons c.args.bytes.now l.b-index (search rules) in
    (omega (arith, ap length e, l.invariant.1), sym (ap (sets l.out l.to) e) ∙ l.invariant.2)
