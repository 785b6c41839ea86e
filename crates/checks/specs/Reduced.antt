-- A sum that is reduced as one goes: the remainder by a modulus is carried from number to number.
use Rattle.std.specs.Prelude.{ℕ, ◌+◌, ◌%◌, List, [], ◌∷◌}
use Rattle.commands.specs.declared.Setting.{Setting}
use Rattle.commands.specs.Commands.{Command, Command.init, Command.update, Command.stop, Command.single}

unfoldable pub reduced : ℕ → ℕ → List ℕ → ℕ
reduced m remainder [] = remainder
reduced m remainder (x ∷ xs) = reduced m ((remainder + x) % m) xs

-- the sum, to be reduced at the end
unfoldable pub total : List ℕ → ℕ
total [] = 0
total (x ∷ xs) = x + total xs

-- ---- the Check of a command: modulo 8 for Init, modulo 32 otherwise

abbrev pub modulus_of : Command → ℕ
modulus_of (init v) = 8
modulus_of (update count entries) = 32
modulus_of stop = 32
modulus_of (single v) = 32

-- all the command's variables; for Update those of all its channels
unfoldable pub settings_variables : List Setting → List ℕ
settings_variables [] = []
settings_variables (v ∷ vs) = v.mode ∷ v.width ∷ v.current ∷ settings_variables vs

abbrev pub variables_of : Command → List ℕ
variables_of (init v) = v.factor ∷ v.stim ∷ v.lf ∷ v.group ∷ v.main ∷ []
variables_of (update count entries) = settings_variables entries
variables_of stop = []
variables_of (single v) = v.channel ∷ v.width ∷ v.current ∷ []
