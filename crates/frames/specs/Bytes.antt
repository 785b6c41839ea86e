-- A command's bytes (document 01, "The four frames"), don't-care bits clear.
use Rattle.std.specs.Prelude.{ℕ, ◌+◌, ◌*◌, ◌^◌, List, [], ◌∷◌, ◌++◌, take}
use Rattle.bits.specs.Fields.{field}
use Rattle.commands.specs.declared.Init.{Init}
use Rattle.commands.specs.declared.Setting.{Setting}
use Rattle.commands.specs.Commands.{Command, Command.init, Command.update, Command.stop, Command.single, ident_of, count_of, check_of}
use Rattle.frames.specs.Layout.{size_for}

-- how many
abbrev pub frame_size : Command → ℕ
frame_size c = size_for (ident_of c) (count_of c)

-- the first byte of all but Init: bit 7, Ident 2, Check 5
abbrev pub head : ℕ → ℕ → ℕ
head ident check = 2 ^ 7 + ident * 2 ^ 5 + check

-- bit 7 of the first byte, and 42 bits below it
abbrev pub init_number : ℕ → Init → ℕ
init_number check v =
    2 ^ 42 + check * 2 ^ 37 + v.factor * 2 ^ 34 + v.stim * 2 ^ 26 + v.lf * 2 ^ 18 + v.group * 2 ^ 11 + v.main

-- over 7 bits a byte
abbrev pub init_bytes : ℕ → List ℕ
init_bytes w = field w 35 8 ∷ field w 28 7 ∷ field w 21 7 ∷ field w 14 7 ∷ field w 7 7 ∷ field w 0 7 ∷ []

-- the three bytes that Update and Single share
abbrev pub entry_bytes : ℕ → ℕ → ℕ → ℕ → List ℕ
entry_bytes low lead width current = (lead * 2 ^ low + field width 7 2) ∷ field width 0 7 ∷ current ∷ []

unfoldable pub settings_bytes : List Setting → List ℕ
settings_bytes [] = []
settings_bytes (v ∷ vs) = entry_bytes 5 v.mode v.width v.current ++ settings_bytes vs

abbrev pub frame : Command → List ℕ
frame (init v) = init_bytes (init_number (check_of (init v)) v)
frame (update count entries) = head 1 (check_of (update count entries)) ∷ settings_bytes (take count entries)
frame stop = head 2 (check_of stop) ∷ []
frame (single v) = head 3 (check_of (single v)) ∷ entry_bytes 4 v.channel v.width v.current
