-- The four commands (document 01, "The four frames"): variables, good values and Check.
use Rattle.std.specs.Prelude.{ℕ, ◌+◌, ◌-◌, ◌%◌, Bool, true, cond, not, ◌&&◌, List, [], ◌∷◌, leb, ltb, eqb}
use Rattle.commands.specs.declared.Init.{Init}
use Rattle.commands.specs.declared.Setting.{Setting}
use Rattle.commands.specs.declared.Single.{Single}
use Rattle.commands.specs.Ranges.{within, good_pulse, good_count}

-- an Update of so many listed channels has eight entries: the listed channels' settings, lowest channel first, and then zeros
pub data Command : Type 0 where
  init : Init → Command
  update : ℕ → List Setting → Command
  stop : Command
  single : Single → Command

abbrev pub ident_of : Command → ℕ
ident_of (init v) = 0
ident_of (update count entries) = 1
ident_of stop = 2
ident_of (single v) = 3

-- how many channels it lists
abbrev pub count_of : Command → ℕ
count_of (init v) = 0
count_of (update count entries) = count
count_of stop = 0
count_of (single v) = 0

abbrev pub no_setting : Setting
no_setting = record { mode = 0; width = 0; current = 0 }

-- ---- Check: the sum of all the command's variables, modulo 8 for Init, modulo 32 otherwise

abbrev pub setting_sum : Setting → ℕ
setting_sum v = v.mode + v.width + v.current

-- for Update the sum runs over all its channels
unfoldable pub sum_all : List Setting → ℕ
sum_all [] = 0
sum_all (v ∷ entries) = setting_sum v + sum_all entries

abbrev pub check_of : Command → ℕ
check_of (init v) = (v.factor + v.stim + v.lf + v.group + v.main) % 8
check_of (update count entries) = sum_all entries % 32
check_of stop = 0
check_of (single v) = (v.channel + v.width + v.current) % 32

-- ---- good values

-- N_Factor has 3 bits; Channel_Stim not 0; Group_Time 3 to 29; Main_Time 4 to 2045
abbrev pub good_init : Init → Bool
good_init v = leb v.factor 7 && not (eqb v.stim 0) && within 3 v.group 29 && within 4 v.main 2045

-- Mode 0 to 2
abbrev pub good_setting : Setting → Bool
good_setting v = leb v.mode 2 && good_pulse v.width v.current

abbrev pub is_zero : Setting → Bool
is_zero v = eqb (setting_sum v) 0

-- an Update entry past the count that is not zero is not good
abbrev pub good_entry : Setting → Bool → Bool
good_entry v listed = cond listed (good_setting v) (is_zero v)

unfoldable pub good_entries : List Setting → ℕ → Bool
good_entries [] count = true
good_entries (v ∷ entries) count = good_entry v (ltb 0 count) && good_entries entries (count - 1)

-- Channel_Number 0 to 7
abbrev pub good_single : Single → Bool
good_single v = leb v.channel 7 && good_pulse v.width v.current

abbrev pub good : Command → Bool
good (init v) = good_init v
good (update count entries) = good_count count && good_entries entries count
good stop = true
good (single v) = good_single v
