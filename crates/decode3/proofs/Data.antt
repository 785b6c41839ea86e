-- The data of each number: what is right of it, in the words of the code. Assumes nothing.
use Prim.Native.Nat.{ℕ, zero, suc, ◌+◌, ◌*◌, ◌/◌, ◌%◌, ◌≤◌, ◌<◌}
use mathlib.Core.Path.{◌≡◌, refl, sym, ap, ◌∙◌}
use mathlib.Core.Bool.{Bool, true, false, cond, ◌&&◌, and-true}
use mathlib.Core.List.{List, [], ◌∷◌}
use native.Mathlib.Omega.{arith}
use lib.Dec.{eqb, leb, eqb-zero-suc, eqb-suc-zero, eqb-suc-suc}
use lib.ListN.{length, get_or, drop, take}
use lib.Seq.{length-take-le}
use lib.IntN.{ℤ, pos}
use borrow.Author.Tests.{le-leb, lt-leb}
use Rattle.charge.specs.declared.Point.{Point}
use Rattle.charge.specs.Charge.{is_zero_point, all, net_of}
use Rattle.commands3.specs.declared.Command.TheVariants.{LlInit, LlInitAck, LlChannelConfig, LlChannelConfigAck, LlStop, LlStopAck}
use Rattle.commands3.specs.Points.{points_in}
use Rattle.commands3.specs.Commands.{good_result, good_electrode, is_no_pulse, alone, data_of, config_in, message_of, reserved_clear, right}
use Rattle.commands3.specs.Contents.{packet_in, head_in}
use Rattle.commands3.proofs.Points.{length_bytes, length_points}
use Rattle.decode3.specs.declared.Decoded.{Decoded}
use Rattle.points3.specs.declared.PulseRead.{PulseRead}
use Rattle.points3.specs.Pulses.{size_of, pulse_right, pulse_read}
use Rattle.std.specs.Prelude.{Some, None, option_map}
use Rattle.decode3.specs.Decoded.{decoded}
use Rattle.decode3.specs.Parts.{told, data_decoded}

-- ---- commands without points

turned : (a b : ℕ) → eqb a b ≡ eqb b a
turned zero zero = refl
turned zero (suc b) = eqb-zero-suc b ∙ sym (eqb-suc-zero b)
turned (suc a) zero = eqb-suc-zero a ∙ sym (eqb-zero-suc a)
turned (suc a) (suc b) = eqb-suc-suc a b ∙ turned a b ∙ sym (eqb-suc-suc b a)

module _ (packet : ℕ) (d : List ℕ) where
  pub stop_decoded : told (eqb (length d) 0) packet (alone LlStop) (pos 0) ≡ data_decoded packet 4 d
  unfolding data_decoded message_of right reserved_clear is_no_pulse all is_zero_point net_of
  stop_decoded = rw (turned (length d) 0, and-true (eqb 0 (length d)))

  module _ (first : ℕ) (e : first ≡ get_or d 0 0) where
    pub init_decoded : told (eqb (length d) 1 && ((eqb (first / 16) 0 && eqb (first % 2) 0) && leb (first / 2 % 8) 6)) packet (alone (LlInit (first / 2 % 8))) (pos 0)
        ≡ data_decoded packet 0 d
    unfolding data_decoded message_of right reserved_clear is_no_pulse all is_zero_point net_of
    init_decoded = rw (e, turned (length d) 1, and-true (leb (get_or d 0 0 / 2 % 8) 6))

    module _ (good : Bool) (g : good ≡ good_result first) where
      pub init_ack_decoded : told (eqb (length d) 1 && good) packet (alone (LlInitAck first)) (pos 0) ≡ data_decoded packet 1 d
      unfolding data_decoded message_of right reserved_clear is_no_pulse all is_zero_point net_of
      init_ack_decoded = rw (g, e, turned (length d) 1, and-true (good_result (get_or d 0 0)))

      pub stop_ack_decoded : told (eqb (length d) 1 && good) packet (alone (LlStopAck first)) (pos 0) ≡ data_decoded packet 5 d
      unfolding data_decoded message_of right reserved_clear is_no_pulse all is_zero_point net_of
      stop_ack_decoded = rw (g, e, turned (length d) 1, and-true (good_result (get_or d 0 0)))

      pub config_ack_decoded : (electrode : ℕ) (known : Bool) → electrode ≡ get_or d 1 0 → known ≡ good_electrode first electrode
          → told (eqb (length d) 2 && (good && known)) packet (alone (LlChannelConfigAck first electrode)) (pos 0) ≡ data_decoded packet 3 d
      unfolding data_decoded message_of right reserved_clear is_no_pulse all is_zero_point net_of
      config_ack_decoded electrode known f k =
          rw (g, k, f, e, turned (length d) 2, and-true (good_result (get_or d 0 0) && good_electrode (get_or d 0 0) (get_or d 1 0)))

-- ---- a channel config

-- four bytes per point, and one
config_size : (d : List ℕ) → length (data_of (config_in d)) ≡ size_of (get_or d 0 0)
config_size d =
    let number : ℕ = get_or d 0 0 % 16 + 1 in
    let points : List Point = points_in 16 number (drop 1 d) in
    let l : length (take number points) ≡ number = length-take-le number points (omega (arith, length_points 16 number (drop 1 d))) in
    omega (arith, length_bytes (take number points), l)

config_right : (d : List ℕ) → get_or d 0 0 < 256 → pulse_right d ≡ right 2 d
unfolding pulse_right message_of right
config_right d b =
    let size : eqb (length (data_of (config_in d))) (length d) ≡ eqb (length d) (size_of (get_or d 0 0)) =
    turned (length (data_of (config_in d))) (length d) ∙ ap (eqb (length d)) (config_size d) in
    rw (size, le-leb (get_or d 0 0 / 128) 1 (omega arith), le-leb (get_or d 0 0 / 32 % 4) 3 (omega arith))

-- what is told of a pulse that is read
abbrev pub told_of : ℕ → List ℕ → PulseRead → Decoded
told_of packet d read = record { packet = packet; message = record { command = (config_in d).command; pulse = read.pulse }; charge = read.charge }

pub config_decoded : (packet : ℕ) (d : List ℕ) → get_or d 0 0 < 256 → option_map (told_of packet d) (pulse_read d) ≡ data_decoded packet 2 d
unfolding pulse_read data_decoded message_of told
config_decoded packet d b = rw (sym (config_right d b)) (by (pulse_right d) _ (told_of packet d))
  where
    by : (t : Bool) (q : PulseRead) (f : PulseRead → Decoded) → option_map f (cond t (Some q) None) ≡ cond t (Some (f q)) None
    by true q f = refl
    by false q f = refl

-- ---- packet number and command number

pub too_short : (content : List ℕ) → length content < 2 → None ≡ decoded content
unfolding decoded
too_short content h = rw (lt-leb 2 (length content) h)

pub long_enough : (content : List ℕ) → 2 ≤ length content → data_decoded (packet_in content) (head_in content % 1024) (drop 2 content) ≡ decoded content
unfolding decoded data_decoded told
long_enough content h = rw (le-leb 2 (length content) h)

-- the first two bytes alone tell the numbers
pub head_of : (content : List ℕ) → 2 ≤ length content → get_or (take 2 content) 0 0 * 256 + get_or (take 2 content) 1 0 ≡ head_in content
head_of [] h = absurd (omega arith)
head_of (a ∷ []) h = absurd (omega arith)
head_of (a ∷ b ∷ l) h = refl
