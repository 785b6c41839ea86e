-- `framing::find` meets its contract. The loop's invariant: what the scan finds from here on is what it finds in all. Assumes nothing.
use mathlib.Core.Path.{sym, ap, ◌∙◌}
use native.Mathlib.Omega.{arith}
use lib.ListN.{length}
use Rattle.framing.specs.Scan.{finished}
use Rattle.framing.proofs.Finding.{scan_end, some_found}
use Rattle.framing.proofs.Blocks.{further, quiet_turn}
use Rattle.framing.proofs.find.Goals as goal

pub walk-requires : goal.walk-requires
walk-requires c = let f = further _ _ _ c.block_end-end.ensures c.loop-at-test.true in (omega (arith, f.0), f.1)

pub returns-in-Finished : goal.returns-in-Finished
returns-in-Finished c = let w = c.in-Finished in some_found w.found w.ensures.1 ∙ ap finished (sym w.ensures.0 ∙ c.loop-at.invariant.1)

pub loop-at-smaller-then-is_quiet : goal.loop-at-smaller-then-is_quiet
loop-at-smaller-then-is_quiet c = let f = further _ _ _ c.block_end-end.ensures c.loop-at-test.true in omega (arith, f.0, f.1)

pub loop-at-preserved-then-is_quiet : goal.loop-at-preserved-then-is_quiet
loop-at-preserved-then-is_quiet c =
    let l = c.loop-at in
    let s = c.args.s.now in
    let e = c.block_end-end in
    let f = further (length s) l.at e.result e.ensures c.loop-at-test.true in
    (f.1, sym (quiet_turn l.prev l.body s l.at e.result e.ensures (sym c.is_quiet.ensures ∙ c.if-is_quiet.true)) ∙ l.invariant.1)

pub loop-at-smaller : goal.loop-at-smaller
loop-at-smaller c = let f = further _ _ _ c.block_end-end.ensures c.loop-at-test.true in omega (arith, f.0, f.1)

pub loop-at-preserved : goal.loop-at-preserved
loop-at-preserved c =
    let f = further (length c.args.s.now) c.loop-at.at c.block_end-end.result c.block_end-end.ensures c.loop-at-test.true in
    (f.1, sym c.in-Unfinished.ensures ∙ c.loop-at.invariant.1)

pub returns : goal.returns
returns c =
    let l = c.loop-at in
    ap finished (sym (scan_end l.prev l.body _ l.at c.loop-at-test.false) ∙ l.invariant.1)
