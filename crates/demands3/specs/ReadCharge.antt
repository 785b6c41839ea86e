-- The net charge of what is read (request 13): "Report the net charge of a pulse as a signed sum in half milliamp microseconds over its 1 to 16
-- points."
use Rattle.std.specs.Prelude.{ℕ, ◌≤◌, ◌≡◌, List, nat_abs}
use Rattle.charge.specs.declared.Point.{Point}
use Rattle.charge.specs.Charge.{points_of, net_of, charge_of}
use Rattle.charge.specs.Sentences.{Reordered}
use Rattle.demands3.specs.Points.{pulse_in}

pub record ChargeBounded : Type 0 where
  -- at most 19,656,000 in size, which an i32 holds
  pub small : (s out : List ℕ) → nat_abs (charge_of (pulse_in s out)) ≤ 19656000
  -- the sum over the points in any order
  pub any_order : (s out : List ℕ) (points : List Point) → Reordered (points_of (pulse_in s out)) points → net_of points ≡ charge_of (pulse_in s out)
