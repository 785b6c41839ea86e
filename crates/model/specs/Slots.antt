-- Document 01, "The machine": which channels pulse at a position.
use Rattle.std.specs.Prelude.{ℕ, zero, suc, ◌+◌, ◌*◌, ◌-◌, ◌%◌, Bool, cond, not, ◌&&◌, ◌||◌, Option, Some, None, ltb, eqb, get_or}
use Rattle.commands.specs.declared.Init.{Init}
use Rattle.commands.specs.declared.Setting.{Setting}
use Rattle.commands.specs.Commands.{no_setting}
use Rattle.model.specs.declared.Run.{Run}
use Rattle.model.specs.Below.{some_below}
use Rattle.model.specs.Channels.{in_set, many}
use Rattle.model.specs.Timing.{t2}

-- 15·k, k being the number of listed channels of its module below it, plus 6 for module B
unfoldable pub slot : ℕ → ℕ → ℕ
slot stim i = cond (ltb i 4) (15 * many stim 0 i) (15 * many stim 4 (i - 4) + 6)

-- a low frequency channel pulses only in cycles c where c + 1 is a multiple of N_Factor + 1
unfoldable pub in_turn : Init → ℕ → ℕ → Bool
in_turn v cycle i = not (in_set v.lf i) || eqb ((cycle + 1) % (v.factor + 1)) 0

-- zero width or current releases nothing
unfoldable pub felt : ℕ → ℕ → Bool
felt width current = ltb 0 width && ltb 0 current

-- the position is slot + p·t2 for p from 0 to Mode
unfoldable pub hits : ℕ → ℕ → ℕ → ℕ → Bool
hits position from t mode = some_below (mode + 1) λ p. eqb position (from + p * t)

-- channel i pulses at the run's position
unfoldable pub due : Run → ℕ → Bool
due r i =
    let x : Setting = get_or r.settings i no_setting in
    in_set r.list.stim i
    && in_turn r.list r.cycle i
    && felt x.width x.current
    && hits r.position (slot r.list.stim i) (t2 r.list.group) x.mode

-- the lowest of the n channels from i on that is due, 8 where none is
unfoldable pub first_due : Run → ℕ → ℕ → ℕ
first_due r i zero = 8
first_due r i (suc n) = cond (due r i) i (first_due r (suc i) n)

-- what 8 stands for, said by type
abbrev pub if_any : ℕ → Option ℕ
if_any i = cond (ltb i 8) (Some i) None
