use Rattle.std.proofs.Common.{rules}
use Rattle.std.proofs.lemmas.List.{length-take-le}
use mathlib.Core.Path.{sym}
use Rattle.cases.proofs.Readout.{copied_fits}
use Rattle.cases.proofs.player.Player.read.Goals as goal

pub slice_bounds-copied-end : goal.slice_bounds-copied-end
slice_bounds-copied-end g c = search (rules, copied_fits)

pub slice_bounds-copied-end-2 : goal.slice_bounds-copied-end-2
slice_bounds-copied-end-2 g c = sym (length-take-le _ _ (slice_bounds-copied-end g c))
