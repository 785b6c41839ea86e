-- The writers (document 01, "The four frames").
use Rattle.std.specs.Prelude.{ℕ, cond, not, List, [], ◌∷◌, ◌++◌, ltb, eqb, length, drop}
use Rattle.commands.specs.declared.Wrote.{Wrote}
use Rattle.commands.specs.Answers.{◌when◌, first_of}
use Rattle.commands.specs.Commands.{Command, good}
use Rattle.frames.specs.Bytes.{frame_size, frame}

-- 4, then 16
abbrev pub write_answer : Command → List ℕ → ℕ
write_answer c out = first_of (4 when not (good c) ∷ 16 when ltb (length out) (frame_size c) ∷ [])

unfoldable pub wrote : Command → List ℕ → Wrote
wrote c out =
    let a : ℕ = write_answer c out in record { answer = a; used = cond (eqb a 0) (frame_size c) 0 }

-- a success writes only the bytes it reports, a refusal leaves the output untouched
unfoldable pub written : Command → List ℕ → List ℕ
written c out = cond (eqb (write_answer c out) 0) (frame c ++ drop (frame_size c) out) out
