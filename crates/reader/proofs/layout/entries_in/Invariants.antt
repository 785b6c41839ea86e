use Prim.Native.Nat.{◌+◌, ◌-◌, ◌*◌}
use mathlib.Core.Path.{◌≡◌}
use lib.Seq.{sets}
use Rattle.frames.specs.Layout.{settings_in}
use Rattle.reader.proofs.layout.entries_in.Given as goal

abbrev pub invariant-loop-i : goal.invariant-loop-i
invariant-loop-i l = sets l.entry-items l.i (settings_in l.s (1 + 3 * l.i) (l.count - l.i)) ≡ settings_in l.s 1 l.count
