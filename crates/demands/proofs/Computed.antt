-- What the definitions compute to: the cases, and the example of two boxes. Assumes nothing.
use mathlib.Core.Path.{refl}
use Rattle.bits.specs.High.{first_high}
use Rattle.commands.specs.Commands.{sum_all, good_entries}
use Rattle.frames.specs.Layout.{init_word, entry_in, settings_in, entries_in, command_in, check_in}
use Rattle.frames.specs.Bytes.{settings_bytes}
use Rattle.frames.specs.Reader.{read_frame}
use Rattle.writers.specs.Writer.{wrote, written}
use Rattle.model.specs.Channels.{in_set, many, placed}
use Rattle.model.specs.Timing.{t1, t2, keeps_modules, keeps_main, largest_mode}
use Rattle.model.specs.Slots.{slot, in_turn, felt, hits, due}
use Rattle.model.specs.Profiles.{NowhereLooser, good_profile, over_at, over_limits}
use Rattle.model.specs.State.{fresh}
use Rattle.model.specs.Judgement.{asked, breaks_timing, in_hold, over_limit, refusals, judge}
use Rattle.model.specs.Effects.{accept, carry}
use Rattle.model.specs.Arrival.{lengthened, opened, followed, arrive, decided, judged, taken, byte_step}
use Rattle.model.specs.Ticks.{moved, releases, watched, timed, tick_step}
use Rattle.model.specs.Machine.{step, run, after}
use Rattle.model.specs.Good.{all_good, run_in_range, in_range, only_listed, unlisted_zero, keeps_timing, keeps_profile, zero_run, good_size, good_partial}
use Rattle.partial.specs.Partial.{frame_of, zeros, unused_zero}
use Rattle.record.specs.Box.{state_of, box_of, good_box}
use Rattle.outcome.specs.Claims.{pulses_in}
use Rattle.calls.specs.Making.{make_of}
use Rattle.calls.specs.Filed.{filed}
use Rattle.calls.specs.Calls.{step_filed, call_of}
use Rattle.calls.specs.Readout.{readout_of, readout_bytes}
use Rattle.trace.specs.Records.{size_of}
use Rattle.trace.specs.Rows.{joined, splits_after, records_after}
use Rattle.trace.specs.Tail.{tail_within, kept}
use Rattle.trace.specs.Round.{around, from_start, content, stored_round}
use Rattle.trace.specs.Ring.{good_ring, good_part, with_part, place_answer, ready_answer, readout_answer, room_for, pushed_ring, pushed_part, pushed, pushed_buf, read_out, read_bytes}
use Rattle.demands.specs.OneBuffer.{onward, bench_after}
use Rattle.demands.specs.FreshBox.{loosest}
use Rattle.demands.specs.Cases.{up_to_clock, cases, Claim}
use Rattle.demands.specs.Rejoining.{strict, Rejoins}
use Rattle.demands.proofs.Silence.{ticks_behind}

pub record Computed : Type 0 where
  pub claimed : Claim
  pub rejoining : NowhereLooser strict loosest → Rejoins

infixr 20 ◌then◌
-- a case, and those behind it
◌then◌ : {A B : Type 0} → A → B → A × B
a then b = (a, b)

pub computed : Computed
unfolding cases first_high sum_all good_entries init_word entry_in settings_in entries_in command_in check_in settings_bytes read_frame wrote written in_set many placed t1 t2 keeps_modules keeps_main largest_mode slot in_turn felt hits due over_at over_limits asked breaks_timing in_hold over_limit refusals judge accept carry lengthened opened followed arrive decided judged taken byte_step moved releases watched timed tick_step step run after pulses_in good_profile all_good run_in_range in_range only_listed unlisted_zero keeps_timing keeps_profile zero_run good_size good_partial state_of frame_of box_of zeros unused_zero good_box make_of filed call_of step_filed readout_of readout_bytes size_of joined splits_after records_after tail_within kept around from_start content stored_round good_ring good_part with_part place_answer ready_answer readout_answer room_for pushed_ring pushed_part pushed pushed_buf read_out read_bytes onward bench_after
computed =
    record {
      claimed =
          ((refl, refl, refl), refl)
          then ((refl, refl, refl), refl)
          then refl
          then (refl, refl)
          then (refl, refl, refl)
          then (refl, refl, refl)
          then (refl, refl, refl)
          then ((refl, refl, refl), (refl, refl, refl))
          then (
            ((refl, refl, refl), (refl, refl, refl), (refl, refl, refl), (refl, refl, refl)),
            ((refl, refl, refl), (refl, refl, refl), (refl, refl, refl), (refl, refl, refl)),
          )
          then (refl, refl)
          then (refl, refl)
          then ticks_behind loosest fresh (up_to_clock 255) refl refl
          then refl
          then refl
          then refl
          then (refl, refl)
          then tt;
      rejoining = λ l. record { stricter = l; trips = refl; rejoins = refl; lax_runs = refl; strict_pulses = refl; lax_pulses = refl };
    }

pub claim : Claim
claim = computed.claimed
