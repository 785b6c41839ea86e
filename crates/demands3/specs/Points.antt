-- The points that are read and written (request 13).
use Rattle.std.specs.Prelude.{ℕ, true, false, ◌≡◌, List, length}
use Rattle.packets.specs.Reader.{reading}
use Rattle.charge.specs.declared.Pulse.{Pulse}
use Rattle.charge.specs.Charge.{point_good, all, points_of}
use Rattle.commands3.specs.declared.Message.{Message}
use Rattle.packets3.specs.Rehamove3.{rehamove3}
use Rattle.packets3.specs.Writer.{wrote}

-- the pulse that is read of any bytes: it has no points where no packet is read, or one that has none
abbrev pub pulse_in : List ℕ → List ℕ → Pulse
pulse_in s out = (reading rehamove3 s (length out)).command.pulse

-- "A point has a duration of 0 to 4095 µs and a current coded as twice the milliamps plus 300; codes above 600 are refused with answer 4, and by our
-- limit also those outside 40 to 560."
pub record PointsGood : Type 0 where
  pub read : (s out : List ℕ) → all point_good (points_of (pulse_in s out)) ≡ true
  pub written : (packet : ℕ) (m : Message) (out : List ℕ) → (wrote packet m out).answer ≡ 0 → all point_good (points_of m.pulse) ≡ true
  pub refused : (packet : ℕ) (m : Message) (out : List ℕ) → all point_good (points_of m.pulse) ≡ false → (wrote packet m out).answer ≡ 4
