-- Document 01, "Numbers the box answers": the column "Given when", read call by call. Which numbers each call gives: no other, and each
-- of them to something.
use Rattle.std.specs.Prelude.{ℕ, List, [], ◌∷◌}
use Rattle.commands.specs.Answers.{Gives}
use Rattle.commands.specs.Commands.{Command}
use Rattle.frames.specs.Reader.{read_frame}
use Rattle.writers.specs.Writer.{wrote}
use Rattle.trace.specs.declared.Part.{Part}
use Rattle.model.specs.declared.Profile.{Profile}
use Rattle.model.specs.Machine.{Call.byte, Call.tick}
use Rattle.record.specs.declared.Box.{Box}
use Rattle.calls.specs.Making.{make_of}
use Rattle.calls.specs.Calls.{call_of}
use Rattle.calls.specs.Readout.{readout_of}

-- a box record, a buffer and a part; for a readout, how many bytes the output has
abbrev pub to_byte : Box × List ℕ × Part × ℕ → ℕ
to_byte x = (call_of x.0 x.1 x.2 (byte x.3)).called.said.answer

abbrev pub to_tick : Box × List ℕ × Part → ℕ
to_tick x = (call_of x.0 x.1 x.2 tick).called.said.answer

abbrev pub to_readout : Box × List ℕ × Part × ℕ → ℕ
to_readout x = (readout_of x.0 x.1 x.2 x.3).answer

-- a profile and a capacity
abbrev pub to_making : Profile × ℕ → ℕ
to_making x = (make_of x.0 x.1).answer

-- a slice and a channel count; a command and an output
abbrev pub of_reader : List ℕ × ℕ → ℕ
of_reader x = (read_frame x.0 x.1).answer

abbrev pub of_writer : Command × List ℕ → ℕ
of_writer x = (wrote x.0 x.1).answer

pub record AnswersGiven : Type 0 where
  pub byte_gives : Gives to_byte (0 ∷ 1 ∷ 2 ∷ 3 ∷ 4 ∷ 5 ∷ 6 ∷ 7 ∷ 8 ∷ 9 ∷ 10 ∷ 12 ∷ 13 ∷ 14 ∷ [])
  pub tick_gives : Gives to_tick (0 ∷ 12 ∷ 13 ∷ 14 ∷ 15 ∷ [])
  pub readout_gives : Gives to_readout (0 ∷ 12 ∷ 13 ∷ 14 ∷ 16 ∷ [])
  pub making_gives : Gives to_making (0 ∷ 11 ∷ 13 ∷ [])
  pub reader_gives : Gives of_reader (0 ∷ 1 ∷ 2 ∷ 3 ∷ 4 ∷ 17 ∷ [])
  pub writer_gives : Gives of_writer (0 ∷ 4 ∷ 16 ∷ [])
