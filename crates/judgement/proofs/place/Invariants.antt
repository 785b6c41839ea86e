use Prim.Native.Nat.{◌≤◌}
use mathlib.Core.Path.{◌≡◌}
use Rattle.model.specs.Channels.{many}
use Rattle.judgement.proofs.Placing.{placed_to}
use Rattle.judgement.proofs.place.Given as goal

abbrev pub invariant-loop-i : goal.invariant-loop-i
invariant-loop-i l =
    (l.next ≡ many l.stim 0 l.i) × (l.next ≤ l.i) × (l.settings ≡ placed_to l.stim l.entries l.i)
