-- The contents of the packets of source 002, section 7.1, by computation. Assumes nothing.
use mathlib.Core.Path.{◌≡◌, refl}
use mathlib.Core.Bool.{true, false}
use mathlib.Core.List.{[], ◌∷◌}
use lib.ListN.{replicate}
use Rattle.charge.specs.declared.Pulse.{Pulse}
use Rattle.charge.specs.Charge.{of_paper, within_limit, point_good, all, is_zero_point, pulse_good}
use Rattle.commands3.specs.declared.Message.{Message}
use Rattle.commands3.specs.declared.Command.TheVariants.{LlInit, LlChannelConfig, LlStop}
use Rattle.commands3.specs.Points.{point_bytes, bytes_of, no_point, point_in, points_in, points_clear}
use Rattle.commands3.specs.Commands.{alone, message_of, reserved_clear, right}
use Rattle.commands3.specs.Contents.{content_of, content_right}

-- 250 µs 20 mA, 100 µs 0 mA, 250 µs -20 mA
abbrev pulse : Pulse
pulse =
    record {
      number = 3;
      points =
          record { duration = 250; code = 340 } ∷ record { duration = 100; code = 300 } ∷ record { duration = 250; code = 260 } ∷ replicate 13 no_point;
    }

-- executed, on the red channel
abbrev config : Message
config = record { command = LlChannelConfig 1 0; pulse = pulse }

init : content_of 0 (alone (LlInit 0)) ≡ 0 ∷ 0 ∷ 0 ∷ []
unfolding content_of
init = refl

channel_config : content_of 1 config ≡ 4 ∷ 2 ∷ 130 ∷ 15 ∷ 165 ∷ 80 ∷ 0 ∷ 6 ∷ 68 ∷ 176 ∷ 0 ∷ 15 ∷ 164 ∷ 16 ∷ 0 ∷ []
unfolding content_of point_bytes bytes_of
channel_config = refl

stop : content_of 2 (alone LlStop) ≡ 8 ∷ 4 ∷ []
unfolding content_of
stop = refl

-- the config's content is right as it stands, and not with the lowest reserved bit of its last point set
clear : content_right (4 ∷ 2 ∷ 130 ∷ 15 ∷ 165 ∷ 80 ∷ 0 ∷ 6 ∷ 68 ∷ 176 ∷ 0 ∷ 15 ∷ 164 ∷ 16 ∷ 0 ∷ []) ≡ true
unfolding of_paper within_limit point_good all is_zero_point pulse_good point_bytes bytes_of point_in points_in points_clear message_of reserved_clear right
clear = refl

reserved_set : content_right (4 ∷ 2 ∷ 130 ∷ 15 ∷ 165 ∷ 80 ∷ 0 ∷ 6 ∷ 68 ∷ 176 ∷ 0 ∷ 15 ∷ 164 ∷ 16 ∷ 1 ∷ []) ≡ false
unfolding point_bytes bytes_of point_in points_in points_clear message_of reserved_clear right
reserved_set = refl
