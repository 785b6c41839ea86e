-- Document 01, "The four frames": the number of each Ident.
use Rattle.std.specs.Prelude.{ℕ}
use Rattle.commands.specs.declared.idents.Ident.{Ident}
use Rattle.commands.specs.declared.idents.Ident.TheVariants.{Init, Update, Stop, Single}

abbrev pub number : Ident → ℕ
number Init = 0
number Update = 1
number Stop = 2
number Single = 3
