-- What the one reader of packets asks of the RehaMove3 beside its laws. Assumes nothing.
use mathlib.Core.Path.{◌≡◌}
use mathlib.Core.Bool.{true}
use mathlib.Core.List.{List}
use Prim.Native.Nat.{ℕ, ◌<◌, ◌≤◌}
use native.Mathlib.Omega.{arith}
use lib.ListN.{length}
use borrow.Author.Tests.{leb-true}
use Rattle.commands3.specs.Contents.{size_good}
use Rattle.packets3.specs.Rehamove3.{check_right, length_right}
use Rattle.packets3.proofs.Lawful.{check_long}

-- a header of eight bytes stands there
pub behind : (body : List ℕ) → check_right body ≡ true → length_right body ≡ true → 8 ≤ length body
behind body check long = check_long body check

pub few : 1190 < 65536
few = omega arith

pub two : (n : ℕ) → size_good n ≡ true → 2 ≤ n
two n e = leb-true 2 n e
