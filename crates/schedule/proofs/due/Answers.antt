-- The lowest due of the channels that are left is the lowest due of all four.
use Rattle.std.proofs.Common.{◌≡◌, ◌+◌, ◌-◌, sym, ◌∙◌, arith}
use borrow.Author.Tests.{lt-ltb}
use Rattle.model.specs.Modules.{first}
use Rattle.schedule.proofs.Slots.{module_le, begin_first, begin_next, due_turn, due_end}
use Rattle.schedule.proofs.due.Goals as goal
use Rattle.schedule.proofs.due.Goals.{then-listed, else-listed}

pub loop-i-init : goal.loop-i-init
loop-i-init c =
    let a = c.args in
    let m = module_le a.which in
    let left : first a.which + 4 - first a.which ≡ 4 = omega arith in
    rw (c.first-first.ensures, c.offset-from.ensures)
    (record { slot = sym (begin_first a.which a.r.now.list.stim); small = omega arith; left = rw left })

pub returns-then-is_due : goal.returns-then-is_due
returns-then-is_due c =
    let l = c.loop-i in
    let a = c.args in
    let m = module_le a.which in
    let t = due_turn a.r.now a.which l.i l.from (omega arith) (omega arith) l.invariant.slot in
    let here = sym l.invariant.left ∙ rw (← c.is_due.ensures, c.if-is_due.true) at t in
    rw (here, lt-ltb l.i 8 (omega arith))

pub loop-i-preserved : goal.loop-i-preserved
loop-i-preserved c =
    let l = c.loop-i in
    let a = c.args in
    let m = module_le a.which in
    let t = due_turn a.r.now a.which l.i l.from (omega arith) (omega arith) l.invariant.slot in
    let left = sym (rw (← c.is_due.ensures, c.if-is_due.false) at t) ∙ l.invariant.left in
    let next = begin_next a.which a.r.now.list.stim l.i c.listed.result (omega arith) c.listed.ensures in
    elim c.if-listed.branch [
      | then-listed w ↦ let n = rw w.if-listed.true at next in record { slot = omega arith; small = omega arith; left = left }
      | else-listed w ↦ let n = rw w.if-listed.false at next in record { slot = omega arith; small = omega arith; left = left }
    ]

pub returns : goal.returns
returns c =
    let l = c.loop-i in
    let a = c.args in
    let none : first a.which + 4 - l.i ≡ 0 = omega arith in
    rw (← l.invariant.left, none, due_end a.r.now l.i)
