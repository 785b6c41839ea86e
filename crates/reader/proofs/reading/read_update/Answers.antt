use Prim.Native.Nat.{ℕ}
use mathlib.Core.Bool.{Bool, ◌&&◌}
use mathlib.Core.Path.{ap, ap₂, ◌∙◌}
use lib.Dec.{eqb}
use Rattle.commands.specs.Commands.{Command.update}
use Rattle.frames.specs.Reader.{no_init, no_single}
use Rattle.frames.proofs.Rows.{check_listed_in}
use Rattle.frames.proofs.Judging.{judged_as}
use Rattle.reader.proofs.Listed.{good_listed_in}
use Rattle.reader.proofs.reading.read_update.Goals as goal

pub returns : goal.returns
returns c =
    let l = c.entries_in-entries in
    let a = c.args in
    let check = c.check_update.ensures ∙ rw (← l.ensures) at (check_listed_in a.s.now a.count) in
    let listed = c.good_listed.ensures ∙ rw (← l.ensures) at (good_listed_in a.s.now a.count) in
    rw (← l.ensures)
    (c.judged.ensures
    ∙ judged_as _ (update a.count l.result) (ap₂ eqb c.check_of.ensures check) (ap₂ (λ (x y : Bool). x && y) c.good_count.ensures listed)
    (ap (λ (k : ℕ). record { ident = k; init = no_init; entries = l.result; single = no_single }) c.number.ensures))
