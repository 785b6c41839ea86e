-- Which numbers reader and writer of packets answer (request 13: "Answers and order are Req 12's"): no other, and each of them to something.
use Rattle.std.specs.Prelude.{ℕ, List, [], ◌∷◌}
use Rattle.commands.specs.Answers.{Gives}
use Rattle.packets.specs.Reader.{reading}
use Rattle.commands3.specs.declared.Message.{Message}
use Rattle.packets3.specs.Rehamove3.{rehamove3}
use Rattle.packets3.specs.Writer.{wrote}

-- bytes, and how much room the output has
abbrev pub of_reader : List ℕ × ℕ → ℕ
of_reader x = (reading rehamove3 x.0 x.1).answer

-- a packet number, a message and an output
abbrev pub of_writer : ℕ × Message × List ℕ → ℕ
of_writer x = (wrote x.0 x.1 x.2).answer

pub record AnswersGiven : Type 0 where
  pub reader_gives : Gives of_reader (0 ∷ 1 ∷ 3 ∷ 4 ∷ 16 ∷ [])
  pub writer_gives : Gives of_writer (0 ∷ 4 ∷ 16 ∷ [])
