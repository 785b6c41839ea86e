-- `charge::net` meets its contract: each point's part turns the sum of the points before it into that with it, and so it fits 32 bits. Assumes nothing.
use mathlib.Core.Path.{◌≡◌, refl, sym, ap₂, ◌∙◌}
use Prim.Native.Nat.{◌+◌}
use native.Mathlib.Omega.{arith}
use lib.ListN.{take, length-take}
use lib.IntN.{ℤ, ◌+ℤ◌}
use mir.Syntax.{w32}
use mir.Val.{to_z, of_z, SFits}
use mir.Facts.{to_z-of_z}
use Rattle.charge.specs.Charge.{of_paper, net_of}
use Rattle.charge.proofs.Points.{no_point, all_at, all_take, net_turn}
use Rattle.charge.proofs.Theorems.{net_fits}
use Rattle.charge.proofs.net.Goals as goal
use Rattle.charge.proofs.net.Goals.{After-part-sum}

sum_here : (c : After-part-sum) → to_z w32 c.loop-p.sum-bits +ℤ to_z w32 (of_z w32 c.part-sum.result) ≡ net_of (take (c.loop-p.p-index + 1) c.args.points.now)
sum_here c =
    ap₂ (λ (x y : ℤ). x +ℤ y) c.loop-p.invariant (to_z-of_z {w = w32} (record { sfits = c.part-sum.type_inv }) ∙ c.part-sum.ensures)
    ∙ sym (net_turn c.args.points.now c.loop-p.p-index no_point (omega arith))

sum_fits : (c : After-part-sum) → SFits w32 (net_of (take (c.loop-p.p-index + 1) c.args.points.now))
sum_fits c =
    let i = c.loop-p.p-index in
    net_fits (take (i + 1) c.args.points.now) (all_take of_paper (i + 1) c.args.points.now c.requires.1) (rw length-take (omega arith))

pub loop-p-init : goal.loop-p-init
unfolding net_of
loop-p-init c = refl

pub part-sum-requires : goal.part-sum-requires
part-sum-requires c =
    all_at of_paper c.args.points.now c.loop-p.p-index no_point (omega arith) c.requires.1

pub overflow_add-sum : goal.overflow_add-sum
overflow_add-sum c = rw (sum_here c) (sum_fits c)

pub loop-p-preserved : goal.loop-p-preserved
loop-p-preserved c = rw (sum_here c) (to_z-of_z (sum_fits c))
