use native.Mathlib.Omega.{arith}
use Rattle.commands.proofs.Fits.{init_fits}
use Rattle.writers.proofs.Joined.{init_joined}
use Rattle.writers.proofs.storing.init_number.Goals as goal

pub returns : goal.returns
returns c =
    let a = c.args in
    rw (
      c.put_field-4.ensures,
      c.put_field-3.ensures,
      c.put_field-lists.ensures,
      c.put_field-2.ensures,
      c.put_field-head.ensures,
      c.put_field.ensures,
    )
    (init_joined a.check a.v c.requires.0 (init_fits a.v c.requires.1) (omega arith) (omega arith))
