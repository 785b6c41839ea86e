-- What a slice holds, by its Ident. Assumes nothing.
use Prim.Native.Nat.{ℕ, zero, suc, ◌<◌}
use mathlib.Core.Path.{◌≡◌, refl}
use mathlib.Core.List.{List}
use native.Mathlib.Omega.{arith}
use lib.ListN.{get_or}
use borrow.Author.Tests.{ne_eqb}
use Rattle.bits.specs.Fields.{field}
use Rattle.commands.specs.Commands.{Command.init, Command.update, Command.stop, Command.single}
use Rattle.frames.specs.Layout.{ident_in, init_word, init_of, entries_in, single_in, command_in, check_in}

-- its command
module _ (s : List ℕ) (count : ℕ) where
  pub init_here : ident_in s ≡ 0 → command_in s count ≡ init (init_of (init_word s))
  unfolding command_in
  init_here e = rw e

  pub update_here : ident_in s ≡ 1 → command_in s count ≡ update count (entries_in s count)
  unfolding command_in
  update_here e = rw e

  pub stop_here : ident_in s ≡ 2 → command_in s count ≡ stop
  unfolding command_in
  stop_here e = rw e

  pub single_here : ident_in s ≡ 3 → command_in s count ≡ single (single_in s)
  unfolding command_in
  single_here e = rw e

-- its Check
pub check_3 : (s : List ℕ) → ident_in s ≡ 0 → check_in s ≡ field (init_word s) 37 3
unfolding check_in
check_3 s e = rw e

pub check_5 : (s : List ℕ) → 0 < ident_in s → check_in s ≡ field (get_or s 0 0) 0 5
unfolding check_in
check_5 s h = rw (ne_eqb (ident_in s) 0 (omega arith))

ident_is : {P : Type 0} (s : List ℕ) (k : ℕ) → k < 4 → ident_in s ≡ k
    → (ident_in s ≡ 0 → P) → (ident_in s ≡ 1 → P) → (ident_in s ≡ 2 → P) → (ident_in s ≡ 3 → P) → P
ident_is s zero h e i u p n = i e
ident_is s (suc zero) h e i u p n = u e
ident_is s (suc (suc zero)) h e i u p n = p e
ident_is s (suc (suc (suc zero))) h e i u p n = n e
ident_is s (suc (suc (suc (suc k)))) h e i u p n = absurd (omega arith)

-- what follows from each Ident holds
pub for_each_ident : {P : Type 0} (s : List ℕ)
    → (ident_in s ≡ 0 → P) → (ident_in s ≡ 1 → P) → (ident_in s ≡ 2 → P) → (ident_in s ≡ 3 → P) → P
for_each_ident s = ident_is s (ident_in s) (omega arith) refl
