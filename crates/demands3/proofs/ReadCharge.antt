-- The net charge of what is read is bounded, in any order of its points. Assumes nothing.
use Prim.Native.Nat.{◌≤◌}
use mathlib.Core.Bool.{true}
use mathlib.Core.Logic.{⊎_elim}
use mathlib.Core.Path.{◌≡◌, sym}
use native.Mathlib.Omega.{arith}
use lib.IntN.{nat_abs}
use lib.ListN.{length-take}
use Rattle.charge.specs.declared.Pulse.{Pulse}
use Rattle.charge.specs.Charge.{of_paper, points_of, pulse_good, net_of, charge_of}
use Rattle.charge.proofs.Points.{all_take}
use Rattle.charge.proofs.Theorems.{bounded, order_free, good_pulse_lem, of_paper_lem}
use Rattle.demands3.specs.Points.{pulse_in}
use Rattle.demands3.specs.ReadCharge.{ChargeBounded}
use Rattle.demands3.proofs.Points.{GoodOrNone, read_pulse}

good_small : (p : Pulse) → pulse_good p ≡ true → nat_abs (charge_of p) ≤ 19656000
good_small p e =
    let g = good_pulse_lem p e in
    bounded (points_of p) (all_take of_paper p.number p.points (of_paper_lem p e)) (rw length-take (omega arith))

pulse_small : (p : Pulse) → GoodOrNone p → nat_abs (charge_of p) ≤ 19656000
unfolding net_of
pulse_small p = ⊎_elim (good_small p) (λ e. rw e (omega arith))

pub charge_bounded : ChargeBounded
charge_bounded =
    record {
      small = λ s out. pulse_small (pulse_in s out) (read_pulse s out);
      any_order = λ s out points r. sym (order_free (points_of (pulse_in s out)) points r);
    }
