-- What is read of the data of a channel config of the RehaMove3, by value.
use Rattle.std.specs.Prelude.{ℕ, zero, suc, ◌+◌, ◌*◌, ◌/◌, ◌%◌, Bool, true, cond, ◌&&◌, List, eqb, ℤ, pos, ◌+ℤ◌, length, get_or, drop, Option, Some, None}
use Rattle.charge.specs.declared.Point.{Point}
use Rattle.charge.specs.Charge.{point_good, pulse_good, part_of, charge_of}
use Rattle.commands3.specs.Points.{word_in, point_in, points_in}
use Rattle.commands3.specs.Commands.{config_in, reserved_clear}
use Rattle.points3.specs.declared.PulseRead.{PulseRead}
use Rattle.points3.specs.declared.PointsRead.{PointsRead}

-- the point of 32 bits
abbrev pub point_of : ℕ → Point
point_of w = record { duration = w / 1048576; code = w / 1024 % 1024 }

-- are so many points good, with their reserved bits 0?
unfoldable pub points_right : ℕ → List ℕ → Bool
points_right zero d = true
points_right (suc number) d = eqb (word_in d % 1024) 0 && point_good (point_in d) && points_right number (drop 4 d)

-- the parts of so many, added up
unfoldable pub parts_of : ℕ → List ℕ → ℤ
parts_of zero d = pos 0
parts_of (suc number) d = part_of (point_in d) +ℤ parts_of number (drop 4 d)

unfoldable pub points_read : ℕ → List ℕ → Option PointsRead
points_read number d = cond (points_right number d) (Some (record { points = points_in 16 number d; charge = parts_of number d })) None

-- four bytes per point stand behind the first
abbrev pub size_of : ℕ → ℕ
size_of first = 4 * (first % 16 + 1) + 1

unfoldable pub pulse_right : List ℕ → Bool
pulse_right d = eqb (length d) (size_of (get_or d 0 0)) && (reserved_clear 2 d && pulse_good (config_in d).pulse)

unfoldable pub pulse_read : List ℕ → Option PulseRead
pulse_read d = cond (pulse_right d) (Some (record { pulse = (config_in d).pulse; charge = charge_of (config_in d).pulse })) None
