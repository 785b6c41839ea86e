-- Whose turn it is: N_Factor counts skips. Assumes nothing.
use Prim.Native.Nat.{ℕ, ◌+◌, ◌%◌}
use mathlib.Core.Bool.{true}
use mathlib.Core.Path.{◌≡◌}
use native.Mathlib.Nat.{mod-eq_of_lt, mod_self, add-mod_right}
use native.Mathlib.Omega.{arith}
use borrow.Author.Tests.{ne_eqb}
use Rattle.commands.specs.declared.Init.{Init}
use Rattle.model.specs.Channels.{in_set}
use Rattle.model.specs.Slots.{in_turn}
use Rattle.model.specs.Claims.{Skips}

pub skips : (v : Init) (i : ℕ) → in_set v.lf i ≡ true → Skips v i
unfolding in_turn
skips v i e =
    record {
      skipped = λ cycle h.
          let k : (cycle + 1) % (v.factor + 1) ≡ cycle + 1 = mod-eq_of_lt (omega arith) in
          rw (e, k, ne_eqb (cycle + 1) 0 (omega arith));
      then_pulses = rw (e, mod_self);
      again = λ cycle.
          let n : cycle + (v.factor + 1) + 1 ≡ cycle + 1 + (v.factor + 1) = omega arith in
          rw (n, add-mod_right);
    }
