-- `crc::check`: a turn takes the first byte that is left, and behind the last none is left. Assumes nothing.
use mathlib.Core.Path.{sym, ap, ◌∙◌}
use Prim.Native.Nat.{ℕ, ◌+◌}
use borrow.Author.Rules.{rules}
use lib.ListN.{drop}
use Rattle.crc.specs.Crc.{crc}
use Rattle.crc.proofs.Laws.{crc_turn, crc_end}
use Rattle.crc.proofs.check.Goals as goal

pub loop-b-preserved : goal.loop-b-preserved
loop-b-preserved g c =
    let m = g.R.Remainder in
    let l = c.loop-b in
    ap (λ (n : ℕ). crc m.top m.polynomial n (drop (l.b-index + 1) c.args.s.now)) c.after-q.ensures
    ∙ sym (crc_turn m.top m.polynomial (m.number l.q) c.args.s.now l.b-index (search rules)) ∙ l.invariant

pub returns : goal.returns
returns g c =
    let m = g.R.Remainder in
    let l = c.loop-b in
    sym (crc_end m.top m.polynomial (m.number l.q) c.args.s.now l.b-index (search rules)) ∙ l.invariant
