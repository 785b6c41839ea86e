-- Net charges worked out. Assumes nothing.
use mathlib.Core.Path.{◌≡◌, refl}
use mathlib.Core.List.{List, [], ◌∷◌, ◌++◌}
use Prim.Native.Nat.{ℕ, ◌-◌}
use lib.IntN.{pos}
use lib.ListN.{replicate}
use Rattle.std.specs.Prelude.{Some}
use Rattle.charge.specs.declared.Point.{Point}
use Rattle.charge.specs.declared.Pulse.{Pulse}
use Rattle.charge.specs.Charge.{of_paper, within_limit, point_good, is_zero_point, all, pulse_good, part_of, net_of, weighed}
use Rattle.charge.proofs.Points.{no_point}

-- a pulse of these points
pulse : ℕ → List Point → Pulse
pulse number points = record { number = number; points = points ++ replicate (16 - number) no_point }

-- 250 µs 20 mA, 100 µs 0 mA, 250 µs -20 mA
balanced : weighed (pulse 3 (record { duration = 250; code = 340 } ∷ record { duration = 100; code = 300 } ∷ record { duration = 250; code = 260 } ∷ []))
    ≡ Some (pos 0)
unfolding pulse weighed pulse_good all point_good of_paper within_limit is_zero_point net_of part_of
balanced = refl

-- the same currents, the second for a shorter time: 50 µs at 40 half milliamps are left
looks_balanced : weighed (pulse 2 (record { duration = 250; code = 340 } ∷ record { duration = 200; code = 260 } ∷ []))
    ≡ Some (pos 2000)
unfolding pulse weighed pulse_good all point_good of_paper within_limit is_zero_point net_of part_of
looks_balanced = refl

-- sixteen points at 4095 µs and 150 mA reach the bound
most : net_of (replicate 16 (record { duration = 4095; code = 600 })) ≡ pos 19656000
unfolding net_of part_of
most = refl
