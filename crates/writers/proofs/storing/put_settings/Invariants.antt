use Prim.Native.Nat.{◌+◌, ◌*◌}
use mathlib.Core.Path.{◌≡◌}
use lib.ListN.{length, drop}
use lib.Seq.{sets}
use Rattle.checks.specs.Reduced.{reduced, settings_variables}
use Rattle.frames.specs.Bytes.{settings_bytes}
use Rattle.writers.proofs.storing.put_settings.Given as goal

abbrev pub invariant-loop-i : goal.invariant-loop-i
invariant-loop-i l =
    (sets l.out (1 + 3 * l.i) (settings_bytes (drop l.i l.listed)) ≡ sets l.initial.out 1 (settings_bytes l.listed))
    × (length l.out ≡ length l.initial.out)
    × (reduced 32 l.remainder (settings_variables (drop l.i l.listed)) ≡ reduced 32 0 (settings_variables l.listed))
