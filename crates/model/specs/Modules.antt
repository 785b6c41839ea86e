-- Document 01, "The machine": the two modules of a stimulator. Channels are counted from 0 here.
use Rattle.std.specs.Prelude.{ℕ, cond, ltb}
use Rattle.model.specs.declared.Module.{Module}
use Rattle.model.specs.declared.Module.TheVariants.{A, B}

-- A has channels 0 to 3, B has 4 to 7
abbrev pub module_of : ℕ → Module
module_of i = cond (ltb i 4) A B

abbrev pub first : Module → ℕ
first A = 0
first B = 4

-- B's slots begin 6 tenths of a millisecond later
abbrev pub offset : Module → ℕ
offset A = 0
offset B = 6
