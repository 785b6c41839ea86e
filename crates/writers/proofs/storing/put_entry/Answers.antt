use native.Mathlib.Numerals.{add-one, add-two}
use native.Mathlib.Omega.{arith}
use lib.ListN.{length-set}
use Rattle.bits.proofs.Fields.{field_lt}
use Rattle.writers.proofs.Joined.{lead_below, lead_byte}
use Rattle.writers.proofs.storing.put_entry.Goals as goal

pub overflow_cast-out : goal.overflow_cast-out
overflow_cast-out c =
    let a = c.args in
    let p = c.requires in
    rw c.put_field.ensures
    (record { fits = lead_byte a.low p.0 p.1 p.2 (rw c.take_field.ensures (field_lt a.width 7 2)) })

pub bounds-out-at-2 : goal.bounds-out-at-2
bounds-out-at-2 c = simp length-set (omega arith)

pub bounds-out-at-3 : goal.bounds-out-at-3
bounds-out-at-3 c = simp length-set (omega arith)

pub returns : goal.returns
returns c =
    let a = c.args in
    let p = c.requires in
    simp (add-one, add-two) (rw (c.take_field-2.ensures, c.put_field.ensures, c.take_field.ensures, lead_below a.low p.0 p.1 p.2 (field_lt a.width 7 2)))
