-- A pulse that is read or written is good, or has no points. Assumes nothing.
use Prim.Native.Nat.{ℕ}
use mathlib.Core.Bool.{Bool, true, false, ◌&&◌, ◌||◌, true≢false}
use mathlib.Core.Logic.{◌⊎◌, inl, inr, ⊎_elim}
use mathlib.Core.Path.{◌≡◌, refl, sym, ◌∙◌}
use mathlib.Core.List.{List}
use lib.Dec.{eqb, leb}
use lib.ListN.{length}
use borrow.Author.Tests.{eqb-true}
use Rattle.commands.proofs.Tests.{both}
use Rattle.packets.proofs.Readings.{read_ways}
use Rattle.charge.specs.declared.Pulse.{Pulse}
use Rattle.charge.specs.Charge.{point_good, all, is_zero_point, points_of, pulse_good}
use Rattle.charge.proofs.Theorems.{good_pulse_lem}
use Rattle.commands3.specs.declared.Command.{Command}
use Rattle.commands3.specs.declared.Message.{Message}
use Rattle.commands3.specs.declared.Command.TheVariants.{LlInit, LlInitAck, LlChannelConfig, LlChannelConfigAck, LlStop, LlStopAck, Other}
use Rattle.commands3.specs.Commands.{good_result, good_electrode, is_no_pulse, good_for, data_of, in_range, message_of, reserved_clear, is_other, right}
use Rattle.commands3.proofs.EachCommand.{other_message}
use Rattle.packets3.specs.Rehamove3.{rehamove3}
use Rattle.demands3.specs.Points.{pulse_in, PointsGood}
use Rattle.demands3.proofs.Writable.{Writable, written_parts, lacking_refused}

abbrev pub GoodOrNone : Pulse → Type 0
GoodOrNone p = (pulse_good p ≡ true) ⊎ (p.number ≡ 0)

-- ---- values in their ranges

module _ (p : Pulse) where
  none : (a : Bool) → a && is_no_pulse p ≡ true → GoodOrNone p
  unfolding is_no_pulse
  none a e = inr (eqb-true p.number 0 (both (eqb p.number 0) (all is_zero_point p.points) (both a (is_no_pulse p) e).1).0)

  in_range_lem : (c : Command) → good_for c p ≡ true → GoodOrNone p
  in_range_lem (LlInit voltage) e = none (leb voltage 6) e
  in_range_lem (LlInitAck result) e = none (good_result result) e
  in_range_lem (LlChannelConfig execution channel) e = inl (both (leb execution 1 && leb channel 3) (pulse_good p) e).1
  in_range_lem (LlChannelConfigAck result electrode) e = none (good_result result && good_electrode result electrode) e
  in_range_lem LlStop e = none true e
  in_range_lem (LlStopAck result) e = none (good_result result) e
  in_range_lem (Other number) e = absurd (true≢false (sym e))

  all_good_lem : GoodOrNone p → all point_good (points_of p) ≡ true
  unfolding all
  all_good_lem = ⊎_elim (λ e. (good_pulse_lem p e).good) (λ e. rw e)

-- ---- what is read

-- of another command no points are
right_pulse : (number : ℕ) (d : List ℕ) → right number d ≡ true → GoodOrNone (message_of number d).pulse
unfolding right
right_pulse number d e = by (is_other (message_of number d).command) refl e
  where
    by : let m = message_of number d in
        (t : Bool) → is_other m.command ≡ t → (t || (eqb (length (data_of m)) (length d) && (reserved_clear number d && in_range m))) ≡ true
        → GoodOrNone m.pulse
    by true other f = inr (rw (other_message number d other))
    by false carried f =
        let m = message_of number d in
        let long = both (eqb (length (data_of m)) (length d)) (reserved_clear number d && in_range m) f in
        in_range_lem m.pulse m.command (both (reserved_clear number d) (in_range m) long.1).1

pub read_pulse : (s out : List ℕ) → GoodOrNone (pulse_in s out)
read_pulse s out =
    read_ways rehamove3 (λ r o. GoodOrNone r.command.pulse) s out
    (λ _. inr refl)
    (λ some passed. right_pulse _ _ passed.values)
    (λ _ _. inr refl)

-- ---- what is written

written_good : (packet : ℕ) (m : Message) → Writable packet m → all point_good (points_of m.pulse) ≡ true
written_good packet m w = all_good_lem m.pulse (in_range_lem m.pulse m.command w.values)

pub points_good : PointsGood
points_good =
    record {
      read = λ s out. all_good_lem (pulse_in s out) (read_pulse s out);
      written = λ packet m out done. written_good packet m (written_parts packet m out done);
      refused = λ packet m out bad. lacking_refused packet m out (λ w. true≢false (sym (written_good packet m w) ∙ bad));
    }
