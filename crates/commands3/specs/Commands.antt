-- The low-level commands of the RehaMove3 (source 002, section 4): their numbers, their data bytes and their good values. In a byte the first named
-- field has the highest bits, as 82 in the example of section 7.1 says: execution 1, channel 0, reserved 0, 3 points.
use Rattle.std.specs.Prelude.{ℕ, ◌+◌, ◌-◌, ◌*◌, ◌/◌, ◌%◌, Bool, true, false, cond, ◌&&◌, ◌||◌, List, [], ◌∷◌, eqb, leb, length, get_or, drop, replicate}
use Rattle.commands.specs.Answers.{is_one_of}
use Rattle.charge.specs.declared.Pulse.{Pulse}
use Rattle.charge.specs.Charge.{points_of, pulse_good, charge_of, is_zero, is_zero_point, all}
use Rattle.commands3.specs.declared.Command.{Command}
use Rattle.commands3.specs.declared.Message.{Message}
use Rattle.commands3.specs.declared.Command.TheVariants.{LlInit, LlInitAck, LlChannelConfig, LlChannelConfigAck, LlStop, LlStopAck, Other}
use Rattle.commands3.specs.Points.{bytes_of, no_point, points_in, points_clear}

-- section 4.1; another command's number is its own
abbrev pub number_of : Command → ℕ
number_of (LlInit voltage) = 0
number_of (LlInitAck result) = 1
number_of (LlChannelConfig execution channel) = 2
number_of (LlChannelConfigAck result electrode) = 3
number_of LlStop = 4
number_of (LlStopAck result) = 5
number_of (Other number) = number

-- ---- data bytes (sections 4.2 and 4.3)

-- "Execution Stimulation 1 Bit, Channel selection 2 Bit, Reserved 1 Bit, Number of points 4 Bit: 0 -> 1 Point, 1 -> 2 Points, etc."
abbrev pub first_byte : ℕ → ℕ → ℕ → ℕ
first_byte execution channel number = execution * 128 + channel * 32 + (number - 1)

-- "Reserved 4 Bit, High Voltage 3 Bit, Reserved 1 Bit"
abbrev pub data_for : Command → Pulse → List ℕ
data_for (LlInit voltage) p = voltage * 2 ∷ []
data_for (LlInitAck result) p = result ∷ []
data_for (LlChannelConfig execution channel) p = first_byte execution channel p.number ∷ bytes_of (points_of p)
data_for (LlChannelConfigAck result electrode) p = result ∷ electrode ∷ []
data_for LlStop p = []
data_for (LlStopAck result) p = result ∷ []
data_for (Other number) p = []

abbrev pub data_of : Message → List ℕ
data_of m = data_for m.command m.pulse

-- ---- good values

-- section 6
abbrev pub good_result : ℕ → Bool
good_result result = is_one_of (0 ∷ 1 ∷ 2 ∷ 4 ∷ 7 ∷ 10 ∷ 11 ∷ []) result

-- "Contains electrode error channel, if result == electrode error": 0 to 3 then, any byte else
abbrev pub good_electrode : ℕ → ℕ → Bool
good_electrode result electrode = cond (eqb result 10) (leb electrode 3) true

-- beside a command that has no points
unfoldable pub is_no_pulse : Pulse → Bool
is_no_pulse p = eqb p.number 0 && all is_zero_point p.points

-- high voltage 0 to 6; execution 0 or 1, channel 0 to 3, a good pulse of any net charge
abbrev pub good_for : Command → Pulse → Bool
good_for (LlInit voltage) p = leb voltage 6 && is_no_pulse p
good_for (LlInitAck result) p = good_result result && is_no_pulse p
good_for (LlChannelConfig execution channel) p = leb execution 1 && leb channel 3 && pulse_good p
good_for (LlChannelConfigAck result electrode) p = good_result result && good_electrode result electrode && is_no_pulse p
good_for LlStop p = is_no_pulse p
good_for (LlStopAck result) p = good_result result && is_no_pulse p
good_for (Other number) p = false

abbrev pub in_range : Message → Bool
in_range m = good_for m.command m.pulse

-- what may be written: "refuse to write one whose net charge is not zero"; another command is not written
abbrev pub good : Message → Bool
good m = in_range m && is_zero (charge_of m.pulse)

-- ---- reading: the command of a number, with its values from the data bytes, 0 where one is missing

abbrev pub no_pulse : Pulse
no_pulse = record { number = 0; points = replicate 16 no_point }

abbrev pub alone : Command → Message
alone c = record { command = c; pulse = no_pulse }

abbrev pub config_in : List ℕ → Message
config_in d =
    let first : ℕ = get_or d 0 0 in
    let number : ℕ = first % 16 + 1 in
    record {
      command = LlChannelConfig (first / 128) (first / 32 % 4);
      pulse = record { number = number; points = points_in 16 number (drop 1 d) };
    }

unfoldable pub message_of : ℕ → List ℕ → Message
message_of number d =
    cond (eqb number 0) (alone (LlInit (get_or d 0 0 / 2 % 8)))
    (cond (eqb number 1) (alone (LlInitAck (get_or d 0 0)))
    (cond (eqb number 2) (config_in d)
    (cond (eqb number 3) (alone (LlChannelConfigAck (get_or d 0 0) (get_or d 1 0)))
    (cond (eqb number 4) (alone LlStop)
    (cond (eqb number 5) (alone (LlStopAck (get_or d 0 0)))
    (alone (Other number)))))))

-- "Reserved: should be set to 0": the reserved bits of a number's data are
unfoldable pub reserved_clear : ℕ → List ℕ → Bool
reserved_clear number d =
    cond (eqb number 0) (eqb (get_or d 0 0 / 16) 0 && eqb (get_or d 0 0 % 2) 0)
    (cond (eqb number 2) (eqb (get_or d 0 0 / 16 % 2) 0 && points_clear (get_or d 0 0 % 16 + 1) (drop 1 d))
    true)

abbrev pub is_other : Command → Bool
is_other (LlInit voltage) = false
is_other (LlInitAck result) = false
is_other (LlChannelConfig execution channel) = false
is_other (LlChannelConfigAck result electrode) = false
is_other LlStop = false
is_other (LlStopAck result) = false
is_other (Other number) = true

-- a carried command has as many data bytes as it asks for, no reserved bit set, and values in their ranges; of another nothing is asked
unfoldable pub right : ℕ → List ℕ → Bool
right number d =
    let m : Message = message_of number d in
    is_other m.command || (eqb (length (data_of m)) (length d) && (reserved_clear number d && in_range m))
