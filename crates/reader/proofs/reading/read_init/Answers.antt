use Prim.Native.Nat.{ℕ}
use mathlib.Core.Path.{ap, ap₂, ◌∙◌}
use lib.Dec.{eqb}
use Rattle.bits.specs.Fields.{field}
use Rattle.commands.specs.Commands.{Command.init}
use Rattle.frames.specs.Reader.{no_entries, no_single}
use Rattle.frames.proofs.Judging.{judged_as}
use Rattle.reader.proofs.reading.read_init.Goals as goal

pub returns : goal.returns
returns c =
    let w = c.init_word-w in
    let v = c.init_of-init in
    rw (← w.ensures, ← v.ensures)
    (c.judged.ensures
    ∙ judged_as (field w.result 37 3) (init v.result) (ap₂ eqb c.take_field.ensures c.check_init.ensures) c.good_init.ensures
    (ap (λ (k : ℕ). record { ident = k; init = v.result; entries = no_entries; single = no_single }) c.number.ensures))
