use Prim.Native.Nat.{ℕ}
use mathlib.Core.Path.{ap, ap₂, ◌∙◌}
use lib.Dec.{eqb}
use Rattle.commands.specs.Commands.{Command.single}
use Rattle.frames.specs.Reader.{no_init, no_entries}
use Rattle.frames.proofs.Judging.{judged_as}
use Rattle.reader.proofs.reading.read_single.Goals as goal

pub returns : goal.returns
returns c =
    let v = c.single_in-single in
    rw (← v.ensures)
    (c.judged.ensures
    ∙ judged_as _ (single v.result) (ap₂ eqb c.check_of.ensures c.check_single.ensures) c.good_single.ensures
    (ap (λ (k : ℕ). record { ident = k; init = no_init; entries = no_entries; single = v.result }) c.number.ensures))
