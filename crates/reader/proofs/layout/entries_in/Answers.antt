use mathlib.Core.Path.{◌≡◌, sym, ◌∙◌}
use native.Mathlib.Nat.{sub-zero}
use native.Mathlib.Omega.{arith}
use lib.ListN.{length, replicate}
use Rattle.std.proofs.lemmas.List.{length-take-le}
use Rattle.commands.specs.Commands.{no_setting}
use Rattle.frames.proofs.Rows.{listed_stored, then_zeros, read_turn, read_end}
use Rattle.reader.proofs.layout.entries_in.Goals as goal

pub loop-i-init : goal.loop-i-init
loop-i-init c =
    let a = c.args in
    rw sub-zero (listed_stored a.s.now a.count _ (length-take-le a.count (replicate 8 no_setting) (omega arith)))

pub loop-i-preserved : goal.loop-i-preserved
loop-i-preserved c =
    let a = c.args in
    let l = c.loop-i in
    let n : length l.entry-items ≡ a.count = l.auto.entry-items ∙ length-take-le a.count (replicate 8 no_setting) (omega arith) in
    rw c.setting_in.ensures (read_turn a.s.now l.entry-items l.i a.count (omega arith) ∙ l.invariant)

pub returns : goal.returns
returns c =
    let a = c.args in
    let l = c.loop-i in
    let n : length l.entry-items ≡ a.count = l.auto.entry-items ∙ length-take-le a.count (replicate 8 no_setting) (omega arith) in
    then_zeros a.s.now a.count l.entry-items (sym (read_end a.s.now l.entry-items l.i a.count _ (omega arith)) ∙ l.invariant)
