-- `framing::is_quiet` meets its contract. Assumes nothing.
use mathlib.Core.Path.{◌≡◌, ap, ◌∙◌}
use mathlib.Core.Bool.{not}
use Prim.Native.Nat.{ℕ, ◌+◌, ◌-◌}
use native.Mathlib.Omega.{arith}
use borrow.Author.Tests.{le-leb, lt-leb}
use lib.ListN.{length, take, drop}
use Rattle.stuffing.specs.Stuffing.{any_special}
use Rattle.framing.specs.Blocks.{quiet}
use Rattle.framing.proofs.is_quiet.Goals as goal

pub returns-then-s-at-ge-BLOCK : goal.returns-then-s-at-ge-BLOCK
unfolding quiet
returns-then-s-at-ge-BLOCK c =
    let a = c.args in
    let s = a.s.now in
    let n : a.at + 16 - a.at ≡ 16 = omega arith in
    rw (le-leb 16 (length s - a.at) c.if-s-at-ge-BLOCK.true) (ap not (c.any_special.ensures ∙ ap (λ (k : ℕ). any_special (take k (drop a.at s))) n))

pub returns-else-s-at-ge-BLOCK : goal.returns-else-s-at-ge-BLOCK
unfolding quiet
returns-else-s-at-ge-BLOCK c = rw (lt-leb 16 (length c.args.s.now - c.args.at) c.if-s-at-ge-BLOCK.false)
