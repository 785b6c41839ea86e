use Prim.Native.Nat.{◌+◌, ◌*◌}
use mathlib.Core.Path.{◌≡◌, sym, ap, ◌∙◌}
use native.Mathlib.Omega.{arith}
use lib.ListN.{length, get_or}
use lib.Seq.{sets, length-sets}
use Rattle.commands.specs.Commands.{Command.update, no_setting}
use Rattle.checks.proofs.Reduced.{check_as_one_goes}
use Rattle.frames.specs.Bytes.{entry_bytes}
use Rattle.writers.proofs.Rows.{write_turn, write_end, sum_turn, sum_end}
use Rattle.writers.proofs.storing.put_settings.Goals as goal

pub loop-i-preserved : goal.loop-i-preserved
loop-i-preserved c =
    let l = c.loop-i in
    let v = get_or c.args.listed.now l.i no_setting in
    let e : c.put_entry.new.out ≡ sets l.out (1 + 3 * l.i) (entry_bytes 5 v.mode v.width v.current) = c.put_entry.ensures in (
      rw e (write_turn c.args.listed.now l.i l.out (omega arith) ∙ l.invariant.0),
      ap length e ∙ simp length-sets l.invariant.1,
      rw c.plus_entry-remainder.ensures (sum_turn c.args.listed.now l.i l.remainder (omega arith) ∙ l.invariant.2),
    )

pub returns-clause-check : goal.returns-clause-check
returns-clause-check c =
    let l = c.loop-i in
    let s = c.args.listed.now in
    c.from.ensures ∙ sym (sum_end s l.i l.remainder (omega arith)) ∙ l.invariant.2 ∙ check_as_one_goes (update (length s) s)

pub returns-clause-bytes : goal.returns-clause-bytes
returns-clause-bytes c =
    let l = c.loop-i in
    sym (write_end c.args.listed.now l.i _ l.out (omega arith)) ∙ l.invariant.0
