-- An input for each number that a call gives. Assumes nothing.
use Prim.Native.Nat.{ℕ, ◌-◌}
use mathlib.Core.Path.{refl}
use mathlib.Core.List.{List, [], ◌∷◌, ◌++◌}
use lib.ListN.{take, get_or, replicate}
use Rattle.bits.specs.High.{first_high}
use Rattle.commands.specs.Commands.{Command, Command.stop}
use Rattle.frames.specs.Layout.{init_word, entry_in, command_in, check_in}
use Rattle.frames.specs.Bytes.{frame_size, frame}
use Rattle.frames.specs.Reader.{read_frame}
use Rattle.writers.specs.Writer.{wrote}
use Rattle.trace.specs.declared.Part.{Part}
use Rattle.trace.specs.Records.{size_of}
use Rattle.trace.specs.Rows.{splits_after}
use Rattle.trace.specs.Round.{from_start, content}
use Rattle.trace.specs.Ring.{empty_ring, good_ring, good_part, ready_answer, readout_answer, read_out}
use Rattle.model.specs.declared.Profile.{Profile}
use Rattle.model.specs.Channels.{in_set, many}
use Rattle.model.specs.Timing.{t1, t2, keeps_modules, keeps_main, largest_mode}
use Rattle.model.specs.Profiles.{good_profile, over_at, over_limits}
use Rattle.model.specs.State.{fresh}
use Rattle.model.specs.Judgement.{asked, breaks_timing, in_hold, over_limit, refusals, judge}
use Rattle.model.specs.Effects.{accept, carry}
use Rattle.model.specs.Arrival.{lengthened, opened, followed, arrive, decided, judged, taken, byte_step}
use Rattle.model.specs.Ticks.{last_clock, tick_step}
use Rattle.model.specs.Machine.{Call, Call.byte, step, after}
use Rattle.model.specs.Good.{all_good, run_in_range, in_range, only_listed, unlisted_zero, keeps_timing, keeps_profile, zero_run, good_size, good_partial}
use Rattle.partial.specs.Partial.{frame_of, zeros, unused_zero}
use Rattle.record.specs.declared.Box.{Box}
use Rattle.record.specs.Box.{state_of, box_of, good_box}
use Rattle.said.specs.Said.{said_of}
use Rattle.calls.specs.Making.{zero_profile, zero_box, make_of}
use Rattle.calls.specs.Calls.{step_filed, call_of}
use Rattle.calls.specs.Readout.{readout_of}
use Rattle.demands.specs.FreshBox.{sent, loosest}
use Rattle.demands.specs.Cases.{single_of, init_of_eight, init5}
use Rattle.sentences.specs.WhichAnswers.{AnswersGiven}
use Rattle.sentences.proofs.NoOther.{byte_gives, tick_gives, readout_gives, making_gives, reader_gives, writer_gives}

-- boxes with a ring of 16 bytes, which are lent a buffer of as many
abbrev part16 : Part
part16 = record { offset = 0; size = 16 }

abbrev buf16 : List ℕ
buf16 = replicate 16 0

-- a box after some calls, and one whose ring has a byte in use, which is no record
abbrev having : Profile → List Call → Box
having p cs = box_of p (empty_ring 16) (after p fresh cs)

abbrev unsplit : Box
unsplit = box_of loosest (record { capacity = 16; start = 0; used = 1 }) fresh

-- the last byte of a command's frame, to a box that has the others
abbrev last_of : Profile → List Call → Command → Box × List ℕ × Part × ℕ
last_of p cs c = let n : ℕ = frame_size c - 1 in (having p (cs ++ sent (take n (frame c))), buf16, part16, get_or (frame c) n 0)

-- nothing is within these limits
abbrev tightest : Profile
tightest = record { currents = replicate 8 0; widths = replicate 8 0; charge = 0; shortest = 30; watchdog = 1 }

abbrev a_single : Command
a_single = single_of 1 200 20

pub answers_given : AnswersGiven
unfolding first_high init_word entry_in command_in check_in read_frame wrote size_of splits_after from_start content good_ring good_part ready_answer readout_answer read_out in_set many t1 t2 keeps_modules keeps_main largest_mode good_profile over_at over_limits asked breaks_timing in_hold over_limit refusals judge accept carry lengthened opened followed arrive decided judged taken byte_step tick_step step after all_good run_in_range in_range only_listed unlisted_zero keeps_timing keeps_profile zero_run good_size good_partial frame_of zeros unused_zero state_of box_of good_box said_of make_of step_filed call_of readout_of
answers_given =
    record {
      byte_gives = byte_gives refl refl refl
          ((having loosest [], buf16, part16, 0xC0)
          ∷ (having loosest [], buf16, part16, 0x88)
          ∷ (having loosest [], buf16, part16, 0x00)
          ∷ (having loosest [], buf16, part16, 0xC1)
          ∷ last_of loosest [] (single_of 1 9 1)
          ∷ last_of loosest [] (init_of_eight 8 100)
          ∷ (having loosest [], buf16, part16, 0xA0)
          ∷ last_of loosest (sent init5) a_single
          ∷ last_of loosest (byte 0xC0 ∷ []) a_single
          ∷ last_of tightest [] a_single
          ∷ last_of tightest (sent (frame a_single)) a_single
          ∷ (zero_box, buf16, part16, 0xC0)
          ∷ (having loosest [], [], part16, 0xC0)
          ∷ (unsplit, buf16, part16, 0xC0)
          ∷ []) refl;
      tick_gives = tick_gives refl refl refl
          ((having loosest [], buf16, part16)
          ∷ (zero_box, buf16, part16)
          ∷ (having loosest [], [], part16)
          ∷ (unsplit, buf16, part16)
          ∷ (box_of loosest (empty_ring 16) (record { clock = last_clock; partial = fresh.partial; core = fresh.core }), buf16, part16)
          ∷ []) refl;
      readout_gives = readout_gives refl refl
          ((having loosest [], buf16, part16, 0)
          ∷ (zero_box, buf16, part16, 0)
          ∷ (having loosest [], [], part16, 0)
          ∷ (unsplit, buf16, part16, 0)
          ∷ (box_of loosest (record { capacity = 16; start = 0; used = 6 }) fresh, 3 ∷ buf16, part16, 0)
          ∷ []) refl;
      making_gives = making_gives refl refl ((loosest, 16) ∷ (zero_profile, 16) ∷ (loosest, 15) ∷ []) refl;
      reader_gives = reader_gives refl refl
          ((0xC0 ∷ [], 1) ∷ ([], 1) ∷ (0x00 ∷ [], 1) ∷ (0xC1 ∷ [], 1) ∷ ([], 0) ∷ (0xE0 ∷ 0x80 ∷ 0x00 ∷ 0x00 ∷ [], 1) ∷ []) refl;
      writer_gives = writer_gives refl refl ((stop, 0 ∷ []) ∷ (single_of 1 9 1, []) ∷ (stop, []) ∷ []) refl;
    }
