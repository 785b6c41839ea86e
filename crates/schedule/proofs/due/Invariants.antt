-- The lowest due of the channels that are left is the lowest due of all four.
use Rattle.std.proofs.Common.{◌≡◌, ◌≤◌, ◌+◌, ◌-◌, ◌*◌}
use Rattle.model.specs.Modules.{first}
use Rattle.model.specs.Slots.{first_due}
use Rattle.schedule.proofs.Slots.{begin}
use Rattle.schedule.proofs.due.Given as goal

abbrev pub invariant-loop-i : goal.invariant-loop-i
invariant-loop-i l =
    let m = l.fn.which in record {
      slot : l.from ≡ begin m l.r.list.stim l.i;
      small : l.from ≤ 15 * (l.i - first m) + 6;
      left : first_due l.r l.i (first m + 4 - l.i) ≡ first_due l.r (first m) 4;
    }
