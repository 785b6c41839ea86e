-- `encode3::contents::put` meets its contract. The loop's invariant: so many of the bytes are there. Assumes nothing.
use mathlib.Core.Path.{◌≡◌}
use mathlib.Core.List.{◌++◌}
use lib.ListN.{take}
use Rattle.encode3.proofs.contents.put.Given as goal

abbrev pub invariant-loop-b : goal.invariant-loop-b
invariant-loop-b l = l.bytes.items ≡ l.initial.bytes.items ++ take l.b-index l.more
