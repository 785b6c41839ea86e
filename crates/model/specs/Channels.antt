-- Sets of channels, given as bytes. Channels are counted from 0 here: 0 to 3 are module A, 4 to 7 are module B.
use Rattle.std.specs.Prelude.{ℕ, zero, suc, ◌+◌, Bool, cond, List, eqb, get_or, replicate}
use Rattle.bits.specs.Fields.{field}
use Rattle.commands.specs.declared.Setting.{Setting}
use Rattle.commands.specs.Commands.{no_setting}
use Rattle.model.specs.Below.{row_below}

unfoldable pub in_set : ℕ → ℕ → Bool
in_set set i = eqb (field set i 1) 1

-- how many of the n channels from `first` on are in the set
unfoldable pub many : ℕ → ℕ → ℕ → ℕ
many set first zero = 0
many set first (suc n) = many set first n + cond (in_set set (first + n)) 1 0

-- how many channels a list has
abbrev pub channels : ℕ → ℕ
channels stim = many stim 0 8

-- settings for eight channels, all zero
abbrev pub silence : List Setting
silence = replicate 8 no_setting

-- an Update's entries at their channels, lowest first; settings of channels not listed are zero
unfoldable pub placed : ℕ → List Setting → List Setting
placed stim entries = row_below 8 λ i. cond (in_set stim i) (get_or entries (many stim 0 i) no_setting) no_setting
