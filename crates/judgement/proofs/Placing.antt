-- An Update's entries at their channels: a turn of the loop over the channels, and its end. Assumes nothing.
use Prim.Native.Nat.{ℕ, suc, ◌+◌, ◌-◌, ◌<◌}
use mathlib.Core.Bool.{cond, true, false}
use mathlib.Core.Path.{◌≡◌, sym, ◌∙◌}
use mathlib.Core.List.{List, [], ◌∷◌, ◌++◌, append_assoc, append-nil}
use native.Mathlib.Omega.{arith}
use native.Mathlib.Numerals.{add-one}
use lib.ListN.{get_or, set, replicate}
use lib.Seq.{set_at}
use Rattle.commands.specs.declared.Setting.{Setting}
use Rattle.commands.specs.Commands.{no_setting}
use Rattle.model.specs.Below.{row_below}
use Rattle.model.specs.Channels.{in_set, many, placed}
use Rattle.model.proofs.Below.{row_length}

module _ (stim : ℕ) (entries : List Setting) where
  abbrev setting : ℕ → Setting
  setting i = cond (in_set stim i) (get_or entries (many stim 0 i) no_setting) no_setting

  -- the channels below i are placed, the others still zero
  abbrev pub placed_to : ℕ → List Setting
  placed_to i = row_below i setting ++ replicate (8 - i) no_setting

  -- a listed channel is set, another stays zero
  module _ (settings : List Setting) (i : ℕ) (h : i < 8) (placed_so_far : settings ≡ placed_to i) where
    left : 8 - i ≡ suc (8 - (i + 1))
    left = omega arith

    pub place_listed : (next : ℕ) → next ≡ many stim 0 i → in_set stim i ≡ true → set settings i (get_or entries next no_setting) ≡ placed_to (i + 1)
    place_listed next n e =
        let here : get_or entries next no_setting ≡ setting i = rw (n, e) in
        rw (here, placed_so_far, left, add-one)
        (set_at (row_below i setting) no_setting (replicate (8 - suc i) no_setting) (setting i) i (row_length i setting) ∙ rw append_assoc)

    pub place_rest : in_set stim i ≡ false → settings ≡ placed_to (i + 1)
    place_rest e =
        rw (placed_so_far, left, add-one, e) (sym (append_assoc (row_below i setting) (no_setting ∷ []) (replicate (8 - suc i) no_setting)))

  pub place_end : (settings : List Setting) → settings ≡ placed_to 8 → settings ≡ placed stim entries
  unfolding placed
  place_end settings e = e ∙ append-nil _
