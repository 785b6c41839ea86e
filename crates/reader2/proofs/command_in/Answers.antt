-- `reader2::command_in` meets its contract. Assumes nothing.
use mathlib.Core.Path.{◌∙◌}
use Rattle.reader2.proofs.FirstBytes.{by_seven}
use Rattle.reader2.proofs.command_in.Goals as goal

pub returns : goal.returns
returns c =
    c.command_of.ensures
    ∙ rw (c.byte_at-8.ensures, c.byte_at-7.ensures, c.byte_at-6.ensures, c.byte_at-5.ensures, c.byte_at-4.ensures, c.byte_at-3.ensures, c.byte_at-2.ensures, c.byte_at.ensures)
    (by_seven c.args.p.now)
