-- The reader of one frame (document 01, "The four frames").
use Rattle.std.specs.Prelude.{ℕ, Result, Ok, Err, Bool, cond, not, List, [], ◌∷◌, ◌++◌, ltb, eqb, length, get_or, take, drop, replicate}
use Rattle.bits.specs.High.{high, first_high}
use Rattle.commands.specs.declared.Init.{Init}
use Rattle.commands.specs.declared.Setting.{Setting}
use Rattle.commands.specs.declared.Single.{Single}
use Rattle.commands.specs.declared.refusals.Refusal.{Refusal}
use Rattle.commands.specs.Answers.{Test, ◌when◌, first_of}
use Rattle.commands.specs.Refusals.{number}
use Rattle.commands.specs.Ranges.{good_count}
use Rattle.commands.specs.Commands.{Command, Command.init, Command.update, Command.stop, Command.single, no_setting, check_of, good}
use Rattle.frames.specs.declared.Fields.{Fields}
use Rattle.frames.specs.declared.Frame.{Frame}
use Rattle.frames.specs.Layout.{ident_in, size_for, command_in, check_in}
use Rattle.frames.specs.Bytes.{frame_size}

-- the bytes after the first, up to the end of a frame of so many bytes
abbrev pub later : ℕ → List ℕ → List ℕ
later n s = drop 1 (take n s)

abbrev pub has_high : List ℕ → Bool
has_high s = ltb (first_high s) (length s)

-- channel count (4); empty slice (1); low first byte (2); slice too short for the frame (1); a later high byte before its end (17)
abbrev pub shape_tests : List ℕ → ℕ → List Test
shape_tests s count =
    4 when not (good_count count)
    ∷ 1 when eqb (length s) 0
    ∷ 2 when not (high (get_or s 0 0))
    ∷ 1 when ltb (length s) (size_for (ident_in s) count)
    ∷ 17 when has_high (later (size_for (ident_in s) count) s)
    ∷ []

-- 3; 4
abbrev pub value_tests : ℕ → Command → List Test
value_tests k c = 3 when not (eqb k (check_of c)) ∷ 4 when not (good c) ∷ []

-- ---- what is handed back: the answer, the bytes used, and the fields of the command, all others zero

pub record Read : Type 0 where
  pub answer : ℕ
  pub used : ℕ
  pub fields : Fields

abbrev pub no_init : Init
no_init = record { factor = 0; stim = 0; lf = 0; group = 0; main = 0 }

abbrev pub no_entries : List Setting
no_entries = replicate 8 no_setting

abbrev pub no_single : Single
no_single = record { channel = 0; width = 0; current = 0 }

abbrev pub no_fields : Fields
no_fields = record { ident = 0; init = no_init; entries = no_entries; single = no_single }

abbrev pub fields_of : Command → Fields
fields_of (init v) = record { ident = 0; init = v; entries = no_entries; single = no_single }
fields_of (update count entries) = record { ident = 1; init = no_init; entries = entries; single = no_single }
fields_of stop = record { ident = 2; init = no_init; entries = no_entries; single = no_single }
fields_of (single v) = record { ident = 3; init = no_init; entries = no_entries; single = v }

abbrev pub found : Command → Read
found c = record { answer = 0; used = frame_size c; fields = fields_of c }

-- a refused reader reports 0 bytes and all fields zero
abbrev pub refused_read : ℕ → Read
refused_read a = record { answer = a; used = 0; fields = no_fields }

-- what a reader reports that finds a frame, or refuses it
abbrev pub reported : Result Frame Refusal → Read
reported (Ok f) = record { answer = 0; used = f.used; fields = f.fields }
reported (Err refusal) = refused_read (number refusal)

abbrev pub answered : ℕ → Command → Read
answered a c = cond (eqb a 0) (found c) (refused_read a)

-- a frame of the right shape, by its Check and its command
unfoldable pub tested_values : ℕ → Command → Read
tested_values k c = answered (first_of (value_tests k c)) c

unfoldable pub read_frame : List ℕ → ℕ → Read
read_frame s count =
    let c : Command = command_in s count in answered (first_of (shape_tests s count ++ value_tests (check_in s) c)) c
