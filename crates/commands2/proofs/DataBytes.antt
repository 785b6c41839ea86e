-- A command's data bytes: they are at most seven, and a command is read from the first seven alone. Assumes nothing.
use Prim.Native.Nat.{ℕ, ◌≤◌, ◌<◌}
use mathlib.Core.Path.{◌≡◌}
use mathlib.Core.Bool.{Bool, true, false, cond}
use mathlib.Core.List.{List, [], ◌∷◌}
use lib.Dec.{lit<, lit≤}
use lib.ListN.{length, get_or}
use Rattle.commands2.specs.declared.Command.{Command}
use Rattle.commands2.specs.declared.Command.TheVariants.{Init, InitAck, UnknownCommand, Watchdog, GetStimulationMode, GetStimulationModeAck, InitChannelListMode, InitChannelListModeAck, Other}
use Rattle.commands2.specs.Results.{no_error}
use Rattle.commands2.specs.Commands.{data_of, command_of}

-- THEOREM. What stands behind the first seven data bytes changes no command.
pub command_by_bytes : (number : ℕ) (a b : List ℕ) → ((i : ℕ) → i < 7 → get_or a i 0 ≡ get_or b i 0) → command_of number a ≡ command_of number b
unfolding command_of
command_by_bytes number a b h =
    rw (h 0 (lit< tt), h 1 (lit< tt), h 2 (lit< tt), h 3 (lit< tt), h 4 (lit< tt), h 5 (lit< tt), h 6 (lit< tt))

-- THEOREM. A command has at most seven data bytes.
pub length_data_le : (c : Command) → length (data_of c) ≤ 7
length_data_le (Init version) = lit≤ tt
length_data_le (InitAck result) = lit≤ tt
length_data_le (UnknownCommand echo) = lit≤ tt
length_data_le Watchdog = lit≤ tt
length_data_le GetStimulationMode = lit≤ tt
length_data_le (GetStimulationModeAck result mode) = with_mode (no_error result)
  where
    with_mode : (there : Bool) → length (0 ∷ cond there (mode ∷ []) []) ≤ 7
    with_mode true = lit≤ tt
    with_mode false = lit≤ tt
length_data_le (InitChannelListMode list) = lit≤ tt
length_data_le (InitChannelListModeAck result) = lit≤ tt
length_data_le (Other number) = lit≤ tt
