-- How many channels a list has. Assumes nothing.
use Prim.Native.Nat.{ℕ}
use mathlib.Core.Bool.{Bool, true, ◌||◌}
use mathlib.Core.Path.{◌≡◌, refl}
use native.Mathlib.Omega.{arith}
use lib.Dec.{eqb}
use borrow.Author.Tests.{ne_eqb}
use Rattle.commands.specs.Ranges.{within}
use Rattle.model.specs.declared.Profile.{Profile}
use Rattle.model.specs.declared.Core.{Core}
use Rattle.model.specs.Below.{all_below}
use Rattle.model.specs.Channels.{in_set, many, channels}
use Rattle.model.specs.State.{is_running}
use Rattle.model.proofs.Below.{each_below_lem}
use Rattle.model.proofs.GoodRuns.{Within, in_range_lem}
use Rattle.model.proofs.GoodStates.{GoodCore}

-- a byte that is not 0 lists one to eight channels
abbrev lists : ℕ → Bool
lists stim = eqb stim 0 || within 1 (channels stim) 8

-- tested at each byte
table : all_below 256 lists ≡ true
unfolding in_set many
table = refl

-- a list has one to eight channels
some_listed : (stim : ℕ) → Within 1 stim 255 → Within 1 (channels stim) 8
some_listed stim w =
    let t : lists stim ≡ true = each_below_lem 256 lists table stim (omega arith) in
    in_range_lem 1 (channels stim) 8 (rw (ne_eqb stim 0 (omega arith)) at t)

-- a list that runs has channels
pub running_channels : {p : Profile} {clock : ℕ} {m : Core} → GoodCore p clock m → is_running m ≡ true
    → Within 1 (channels m.run.list.stim) 8
running_channels {m = m} g e = some_listed m.run.list.stim (g.running e).list.stim
