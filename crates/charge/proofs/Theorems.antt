-- The promises of `specs/Sentences`, and that the net charge of a good pulse fits 32 bits. Assumes nothing.
use mathlib.Core.Path.{◌≡◌, refl, sym, ap, ◌∙◌}
use mathlib.Core.Bool.{true}
use mathlib.Core.List.{List}
use Prim.Native.Nat.{◌≤◌}
use native.Mathlib.Omega.{arith}
use lib.Dec.{leb}
use lib.ListN.{length, drop, length-take}
use lib.IntN.{ℤ, ◌+ℤ◌, +ℤ_assoc, +ℤ_comm}
use mir.Syntax.{w32}
use mir.Val.{SFits}
use borrow.Author.Tests.{leb-true}
use Rattle.charge.specs.declared.Point.{Point}
use Rattle.charge.specs.declared.Pulse.{Pulse}
use Rattle.charge.specs.Charge.{of_paper, point_good, all, is_zero_point, points_of, pulse_good, part_of, net_of, charge_of}
use Rattle.charge.specs.Sentences.{Bounded, Reordered.same, Reordered.swapped, Reordered.behind, Reordered.onward, OrderFree}
use Rattle.charge.proofs.Sizes.{small_fits}
use Rattle.commands.proofs.Tests.{both}
use Rattle.charge.proofs.Points.{all_take, all_paper, net_past, net_small}

pub bounded : Bounded
bounded points e h = omega (arith, net_small points e)

pub net_fits : (points : List Point) → all of_paper points ≡ true → length points ≤ 16 → SFits w32 (net_of points)
net_fits points e h = small_fits (net_of points) (omega (arith, bounded points e h))

pub order_free : OrderFree
unfolding net_of
order_free l m (same k) = refl
order_free l m (swapped p q k) =
    sym (+ℤ_assoc (part_of p) (part_of q) (net_of k)) ∙ ap (λ (z : ℤ). z +ℤ net_of k) (+ℤ_comm (part_of p) (part_of q))
    ∙ +ℤ_assoc (part_of q) (part_of p) (net_of k)
order_free l m (behind p j k r) = ap (λ (z : ℤ). part_of p +ℤ z) (order_free j k r)
order_free l m (onward j k n r s) = order_free j k r ∙ order_free k n s

-- ---- a good pulse

pub record GoodPulse (p : Pulse) : Type 0 where
  pub some : 1 ≤ p.number
  pub few : p.number ≤ 16
  pub good : all point_good (points_of p) ≡ true
  pub zero : all is_zero_point (drop p.number p.points) ≡ true

pub good_pulse_lem : (p : Pulse) → pulse_good p ≡ true → GoodPulse p
unfolding pulse_good
good_pulse_lem p e =
    let f = both (leb 1 p.number) _ e in
    let g = both (leb p.number 16) _ f.1 in
    let h = both (all point_good (points_of p)) _ g.1 in
    record { some = leb-true 1 p.number f.0; few = leb-true p.number 16 g.0; good = h.0; zero = h.1 }

module _ (p : Pulse) (e : pulse_good p ≡ true) where
  pub of_paper_lem : all of_paper p.points ≡ true
  of_paper_lem = let g = good_pulse_lem p e in all_paper p.number p.points g.good g.zero

  pub charge_fits : SFits w32 (charge_of p)
  charge_fits =
      let g = good_pulse_lem p e in
      net_fits (points_of p) (all_take of_paper p.number p.points of_paper_lem) (rw length-take (omega arith))

  -- the sum over all sixteen is that over the pulse's points
  pub all_net : net_of p.points ≡ charge_of p
  all_net = net_past p.number p.points (good_pulse_lem p e).zero

-- what the sum over a good pulse's points asks
pub few_points : (p : Pulse) → pulse_good p ≡ true → p.number ≤ 16
few_points p e = (good_pulse_lem p e).few

pub length_points : (p : Pulse) → pulse_good p ≡ true → length (points_of p) ≤ 16
length_points p e = rw length-take (omega (arith, few_points p e))

pub paper_points : (p : Pulse) → pulse_good p ≡ true → all of_paper (points_of p) ≡ true
paper_points p e = all_take of_paper p.number p.points (of_paper_lem p e)
