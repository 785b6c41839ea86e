use Prim.Native.Nat.{ℕ}
use mathlib.Core.Path.{refl, ap, ◌∙◌}
use lib.Dec.{eqb}
use Rattle.commands.specs.Commands.{Command.stop}
use Rattle.frames.specs.Reader.{no_init, no_entries, no_single}
use Rattle.frames.proofs.Judging.{judged_as}
use Rattle.reader.proofs.reading.read_stop.Goals as goal

pub returns : goal.returns
returns c =
    c.judged.ensures
    ∙ judged_as _ stop (ap (λ (k : ℕ). eqb k 0) c.check_of.ensures) refl
    (ap (λ (k : ℕ). record { ident = k; init = no_init; entries = no_entries; single = no_single }) c.number.ensures)
