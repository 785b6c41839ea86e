-- What each call answers is one of its numbers, and with an input for each of them they are the numbers that it gives. Assumes nothing.
use Prim.Native.Nat.{ℕ}
use mathlib.Core.Bool.{Bool, true, not, ◌&&◌}
use mathlib.Core.Path.{◌≡◌}
use mathlib.Core.List.{List, [], ◌∷◌, ◌++◌, map}
use native.Mathlib.Omega.{arith}
use lib.Dec.{ltb, eqb}
use lib.ListN.{length}
use Rattle.commands.specs.Answers.{Test, ◌when◌, first_of, is_one_of, Gives}
use Rattle.commands.specs.Commands.{Command, good}
use Rattle.commands.proofs.Tests.{both, first_passes}
use Rattle.frames.specs.Layout.{command_in, check_in}
use Rattle.frames.specs.Bytes.{frame_size}
use Rattle.frames.specs.Reader.{shape_tests, value_tests, read_frame}
use Rattle.writers.specs.Writer.{wrote}
use Rattle.trace.specs.declared.Part.{Part}
use Rattle.trace.specs.Ring.{good_capacity, readout_tests, readout_answer, read_out}
use Rattle.model.specs.declared.Profile.{Profile}
use Rattle.model.specs.Below.{all_below}
use Rattle.model.specs.Profiles.{good_profile}
use Rattle.model.specs.Machine.{Call.byte, Call.tick, step}
use Rattle.model.proofs.Tests.{either_way}
use Rattle.model.proofs.Below.{each_below_lem}
use Rattle.model.proofs.Cases.{tick_cases}
use Rattle.record.specs.declared.Box.{Box}
use Rattle.record.specs.Box.{state_of, good_box}
use Rattle.said.specs.Said.{said_of}
use Rattle.calls.specs.Making.{make_of}
use Rattle.calls.specs.Calls.{step_filed}
use Rattle.calls.specs.Readout.{readout_of}
use Rattle.demands.proofs.Answers.{byte_most}
use Rattle.sentences.specs.WhichAnswers.{to_byte, to_tick, to_readout, to_making, of_reader, of_writer}
use Rattle.sentences.proofs.Calls.{call_ways, refusal_passes}

-- each of these is one of the numbers
abbrev all_of : List ℕ → List ℕ → Bool
all_of numbers [] = true
all_of numbers (n ∷ ns) = is_one_of numbers n && all_of numbers ns

module _ {numbers : List ℕ} (zero-too : is_one_of numbers 0 ≡ true) where
  pub byte_gives : all_below 11 (is_one_of numbers) ≡ true → all_of numbers (12 ∷ 13 ∷ 14 ∷ []) ≡ true
      → (inputs : List (Box × List ℕ × Part × ℕ)) → map to_byte inputs ≡ numbers → Gives to_byte numbers
  unfolding step_filed said_of
  byte_gives below above inputs each =
      record {
        no_other = λ x.
            let b = x.0 in
            call_ways b x.1 x.2 (λ r. is_one_of numbers r.called.said.answer ≡ true) (byte x.3)
            (λ g ready. each_below_lem 11 (is_one_of numbers) below _ (omega (arith, byte_most b.profile (state_of b) x.3)))
            (refusal_passes b x.1 x.2 (is_one_of numbers) zero-too above);
        inputs = inputs;
        each = each;
      }

  pub tick_gives : is_one_of numbers 15 ≡ true → all_of numbers (12 ∷ 13 ∷ 14 ∷ []) ≡ true
      → (inputs : List (Box × List ℕ × Part)) → map to_tick inputs ≡ numbers → Gives to_tick numbers
  unfolding step_filed said_of step
  tick_gives end above inputs each =
      record {
        no_other = λ x.
            let b = x.0 in
            call_ways b x.1 x.2 (λ r. is_one_of numbers r.called.said.answer ≡ true) tick
            (λ g ready. tick_cases (λ r. is_one_of numbers r.answer ≡ true) b.profile (state_of b) end (λ moves. zero-too))
            (refusal_passes b x.1 x.2 (is_one_of numbers) zero-too above);
        inputs = inputs;
        each = each;
      }

  pub readout_gives : all_of numbers (12 ∷ 13 ∷ 14 ∷ 16 ∷ []) ≡ true
      → (inputs : List (Box × List ℕ × Part × ℕ)) → map to_readout inputs ≡ numbers → Gives to_readout numbers
  unfolding readout_of read_out readout_answer
  readout_gives above inputs each =
      record {
        no_other = λ x.
            either_way (good_box x.0)
            (λ e. rw (e, to_readout) (first_passes (is_one_of numbers) (readout_tests x.1 x.2 x.0.ring x.3) zero-too above))
            (λ e. rw (e, to_readout) (both (is_one_of numbers 12) _ above).0);
        inputs = inputs;
        each = each;
      }

  pub making_gives : all_of numbers (11 ∷ 13 ∷ []) ≡ true → (inputs : List (Profile × ℕ)) → map to_making inputs ≡ numbers → Gives to_making numbers
  unfolding make_of
  making_gives above inputs each =
      record {
        no_other = λ x.
            first_passes (is_one_of numbers) (11 when not (good_profile x.0) ∷ 13 when not (good_capacity x.1) ∷ []) zero-too above;
        inputs = inputs;
        each = each;
      }

  pub reader_gives : all_of numbers (4 ∷ 1 ∷ 2 ∷ 1 ∷ 17 ∷ 3 ∷ 4 ∷ []) ≡ true
      → (inputs : List (List ℕ × ℕ)) → map of_reader inputs ≡ numbers → Gives of_reader numbers
  unfolding read_frame
  reader_gives above inputs each =
      record {
        no_other = λ x.
            let c : Command = command_in x.0 x.1 in
            let ts : List Test = shape_tests x.0 x.1 ++ value_tests (check_in x.0) c in
            either_way (eqb (first_of ts) 0)
            (λ e. rw (e, of_reader) zero-too)
            (λ e. rw (e, of_reader) (first_passes (is_one_of numbers) ts zero-too above));
        inputs = inputs;
        each = each;
      }

  pub writer_gives : all_of numbers (4 ∷ 16 ∷ []) ≡ true → (inputs : List (Command × List ℕ)) → map of_writer inputs ≡ numbers → Gives of_writer numbers
  unfolding wrote
  writer_gives above inputs each =
      record {
        no_other = λ x.
            first_passes (is_one_of numbers) (4 when not (good x.0) ∷ 16 when ltb (length x.1) (frame_size x.0) ∷ []) zero-too above;
        inputs = inputs;
        each = each;
      }
