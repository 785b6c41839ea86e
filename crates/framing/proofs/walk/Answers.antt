-- `framing::walk` meets its contract. The loop's invariant: what the scan finds from here on is what it finds from the start on. Assumes nothing.
use mathlib.Core.Path.{◌≡◌, sym, ap, ◌∙◌}
use Prim.Native.Nat.{ℕ, ◌<◌, ◌+◌}
use native.Mathlib.Omega.{arith}
use borrow.Author.Rules.{rules}
use lib.ListN.{length, drop, get_or}
use Rattle.framing.specs.Scan.{scan}
use Rattle.framing.proofs.Finding.{opened_yes, opened_no, scan_found, scan_on}
use Rattle.framing.proofs.Blocks.{scan_unmarked}
use Rattle.framing.proofs.walk.Goals as goal
use Rattle.framing.proofs.walk.Goals.{then-is_mark+else-is_close+then-is_open, then-is_mark+else-is_close+else-is_open, else-is_mark}

pub returns-then-is_close : goal.returns-then-is_close
returns-then-is_close c =
    let l = c.loop-at in
    let h : l.at < length c.args.s.now = search rules in
    (sym l.invariant ∙ scan_found l.prev l.body c.args.s.now l.at h (sym c.is_close.ensures ∙ c.if-is_close.true), omega arith)

pub loop-at-preserved : goal.loop-at-preserved
loop-at-preserved c =
    let l = c.loop-at in
    let s = c.args.s.now in
    let b = get_or s l.at 0 in
    let h : l.at < length s = search rules in
    elim c.if-is_mark.branch [
      | then-is_mark+else-is_close+then-is_open w ↦
          ap (λ (n : ℕ). scan b n (l.at + 1) (drop (l.at + 1) s)) (w.body-is ∙ opened_yes l.prev l.body b l.at (sym w.is_open.ensures ∙ w.if-is_open.true))
          ∙ sym (scan_on l.prev l.body s l.at h (sym w.is_close.ensures ∙ w.if-is_close.false)) ∙ l.invariant
      | then-is_mark+else-is_close+else-is_open w ↦
          ap (λ (n : ℕ). scan b n (l.at + 1) (drop (l.at + 1) s)) (w.body-is ∙ opened_no l.prev l.body b l.at (sym w.is_open.ensures ∙ w.if-is_open.false))
          ∙ sym (scan_on l.prev l.body s l.at h (sym w.is_close.ensures ∙ w.if-is_close.false)) ∙ l.invariant
      | else-is_mark w ↦
          ap (λ (n : ℕ). scan b n (l.at + 1) (drop (l.at + 1) s)) w.body-is
          ∙ sym (scan_unmarked l.prev l.body s l.at h (sym c.is_mark.ensures ∙ w.if-is_mark.false)) ∙ l.invariant
    ]

pub returns : goal.returns
returns c =
    let l = c.loop-at in
    let a = c.args in
    let e : l.at ≡ a.end = search rules in
    sym l.invariant ∙ ap (λ (n : ℕ). scan l.prev l.body n (drop n a.s.now)) e
