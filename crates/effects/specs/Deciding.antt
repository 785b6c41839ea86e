-- How the box decides a frame that the reader of frames has read.
use Rattle.std.specs.Prelude.{ℕ, ◌/◌, cond, ◌&&◌, ◌||◌, List, [], ◌∷◌, ◌++◌, ◌≡◌, leb, ltb, eqb, length}
use Rattle.commands.specs.Answers.{Test, ◌when◌, first_of}
use Rattle.commands.specs.Commands.{Command, Command.init, Command.update, Command.stop, Command.single, ident_of}
use Rattle.frames.specs.declared.Fields.{Fields}
use Rattle.frames.specs.Layout.{ident_in, by_ident}
use Rattle.frames.specs.Reader.{Read, shape_tests, read_frame}
use Rattle.commands.specs.Reply.{reply}
use Rattle.model.specs.declared.Profile.{Profile}
use Rattle.model.specs.declared.Core.{Core}
use Rattle.model.specs.State.{is_tripped}
use Rattle.model.specs.Judgement.{late_refusals, over_limit}
use Rattle.model.specs.Effects.{carry}
use Rattle.model.specs.Arrival.{Result, decided}
use Rattle.said.specs.declared.Released.{Released}
use Rattle.said.specs.declared.Said.{Said}
use Rattle.said.specs.Said.{nothing}
use Rattle.decided.specs.ByValue.{drop_frame}

-- the tests behind 3, 10 and 4
unfoldable pub late_tests : Profile → Core → Command → List Test
late_tests p m c = late_refusals m c ++ 9 when over_limit p m c ∷ []

unfoldable pub late : Profile → ℕ → Core → Command → Result
late p clock m c =
    let a : ℕ = first_of (late_tests p m c) in decided clock (ident_of c) a (carry clock m c a)

-- the command that a reader reports; what an Update asks for does not depend on its count
abbrev pub command_from : ℕ → Fields → Command
command_from k f = by_ident k (init f.init) (update 0 f.entries) stop (single f.single)

-- 3; 10; 4; then the others
unfoldable pub decide_read : Profile → ℕ → Core → ℕ → Read → Result
decide_read p clock m k r =
    cond (eqb r.answer 3) (drop_frame clock m k 3)
    (cond ((eqb k 1 || eqb k 3) && is_tripped m) (drop_frame clock m k 10)
    (cond (eqb r.answer 0) (late p clock m (command_from k r.fields)) (drop_frame clock m k 4)))

-- an accepted Single's pulse in the place of its module
abbrev pub say_pulse : Released → Said
say_pulse x = record { answer = 0; reply = reply 3 0; a = cond (leb x.channel 4) x nothing; b = cond (leb x.channel 4) nothing x }

-- what the reader is told of the list: an Update's own count, which for the other kinds does not matter
abbrev pub told_count : ℕ → ℕ
told_count size = cond (ltb size 3) 1 (size / 3)

-- any bytes, as the reader reads them: those that are no whole frame are refused with 4, or 10; the box hands over whole frames
-- alone
abbrev pub decide_frame : Profile → ℕ → Core → List ℕ → Result
decide_frame p clock m s = decide_read p clock m (ident_in s) (read_frame s (told_count (length s)))

-- a whole frame: the reader finds no fault in its shape
abbrev pub Whole : List ℕ → Type 0
Whole s = first_of (shape_tests s (told_count (length s))) ≡ 0
