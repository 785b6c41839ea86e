-- The net charge of a pulse (request 13): "a signed sum in half milliamp microseconds over its 1 to 16 points".
use Rattle.std.specs.Prelude.{List, [], ◌∷◌, Bool, true, false, cond, ◌&&◌, leb, eqb, ℤ, pos, negsuc, ◌+ℤ◌, ◌-ℤ◌, ◌*ℤ◌, take, drop, Option, Some, None}
use Rattle.charge.specs.declared.Point.{Point}
use Rattle.charge.specs.declared.Pulse.{Pulse}

-- ---- good points

-- source 002, section 4.2: "Duration [0 .. 1 .. 4095] µs", "Current [-150 .. -149,5 .. 150] mA, transfer function f(x) = 2x + 300"
unfoldable pub of_paper : Point → Bool
of_paper p = leb p.duration 4095 && leb p.code 600

-- "and by our limit also those outside 40 to 560"
unfoldable pub within_limit : Point → Bool
within_limit p = leb 40 p.code && leb p.code 560

unfoldable pub point_good : Point → Bool
point_good p = of_paper p && within_limit p

unfoldable pub all : (Point → Bool) → List Point → Bool
all test [] = true
all test (p ∷ ps) = test p && all test ps

unfoldable pub is_zero_point : Point → Bool
is_zero_point p = eqb p.duration 0 && eqb p.code 0

-- "Number of points (1 – 16)"; those past the number are zero
abbrev pub points_of : Pulse → List Point
points_of p = take p.number p.points

unfoldable pub pulse_good : Pulse → Bool
pulse_good p =
    leb 1 p.number && (leb p.number 16 && (all point_good (points_of p) && all is_zero_point (drop p.number p.points)))

-- ---- the net charge

-- a point: its duration times its code less 300
unfoldable pub part_of : Point → ℤ
part_of p = pos p.duration *ℤ (pos p.code -ℤ pos 300)

unfoldable pub net_of : List Point → ℤ
net_of [] = pos 0
net_of (p ∷ ps) = part_of p +ℤ net_of ps

abbrev pub charge_of : Pulse → ℤ
charge_of p = net_of (points_of p)

unfoldable pub is_zero : ℤ → Bool
is_zero (pos n) = eqb n 0
is_zero (negsuc n) = false

-- of a point or a pulse that is not good no charge is told
unfoldable pub weighed_point : Point → Option ℤ
weighed_point p = cond (point_good p) (Some (part_of p)) None

unfoldable pub weighed : Pulse → Option ℤ
weighed p = cond (pulse_good p) (Some (charge_of p)) None
