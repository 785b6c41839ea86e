-- Data bytes by value: seven bytes, zeros behind the data, and how many are data.
use Rattle.std.specs.Prelude.{ℕ, List, ◌++◌, length, take, replicate}
use Rattle.commands2.specs.declared.Command.{Command}
use Rattle.commands2.specs.declared.Data.{Data}
use Rattle.commands2.specs.Commands.{data_of}

unfoldable pub by_value : List ℕ → Data
by_value d = record { bytes = take 7 (d ++ replicate 7 0); size = length d }

abbrev pub data_by_value : Command → Data
data_by_value c = by_value (data_of c)
