-- The length that a partial frame may have. Assumes nothing.
use Prim.Native.Nat.{ℕ, zero, suc, ◌+◌, ◌*◌, ◌%◌}
use mathlib.Core.Bool.{true, false, ◌&&◌}
use mathlib.Core.Path.{◌≡◌, refl}
use mathlib.Core.List.{List, [], ◌∷◌}
use native.Mathlib.Omega.{arith}
use lib.Dec.{ltb, eqb}
use lib.ListN.{length}
use borrow.Author.Tests.{le-leb, eq-eqb, eqb-true}
use Rattle.bits.specs.High.{high}
use Rattle.commands.specs.Ranges.{within}
use Rattle.commands.proofs.Tests.{both}
use Rattle.frames.specs.Layout.{ident_in, size_for}
use Rattle.model.specs.declared.Core.{Core}
use Rattle.model.specs.Channels.{channels}
use Rattle.model.specs.State.{by_state, is_running}
use Rattle.model.specs.Effects.{trip}
use Rattle.model.specs.Good.{all_low, good_size, good_partial}
use Rattle.model.proofs.Tests.{◌and◌, either_way, not_both}
use Rattle.model.proofs.GoodRuns.{Within}

-- a box that runs is in state 1
state_running : (m : Core) → is_running m ≡ true → m.state ≡ 1
state_running m e = by m.state e
  where
    by : (n : ℕ) → by_state n false true false ≡ true → n ≡ 1
    by zero f = not_both f refl
    by (suc zero) f = refl
    by (suc (suc n)) f = not_both f refl

-- an Update has the running list's length
pub list_size : (m : Core) (k : ℕ) → eqb k 1 ≡ true → is_running m ≡ true
    → good_size m k (size_for 1 (channels m.run.list.stim)) ≡ true
unfolding good_size
list_size m k e r = let size : ℕ = size_for 1 (channels m.run.list.stim) in rw (e, state_running m r) (eq-eqb size size refl)

-- every other frame has its own length
pub own_size : (m : Core) (k size : ℕ) → eqb k 1 ≡ false → size ≡ size_for k 1 → good_size m k size ≡ true
unfolding good_size
own_size m k size e s = rw e (rw e at (eq-eqb size (size_for k 1) s))

-- one core finds each length good that another does
abbrev pub KeepsSizes : Core → Core → Type 0
KeepsSizes m n = (k size : ℕ) → good_size m k size ≡ true → good_size n k size ≡ true

-- a partial frame is good wherever its length is
pub sizes_kept : (m n : Core) → KeepsSizes m n → (size : ℕ) (bytes : List ℕ) → good_partial m size bytes ≡ true
    → good_partial n size bytes ≡ true
unfolding good_partial
sizes_kept m n keeps size [] g = g
sizes_kept m n keeps size (b ∷ bytes) g =
    let p = both (high b && all_low bytes && ltb (suc (length bytes)) size) (good_size m (ident_in (b ∷ [])) size) g in
    p.0 and keeps (ident_in (b ∷ [])) size p.1

-- an Update left open by a trip keeps the length that its list gave it
pub trip_keeps_sizes : (m : Core) → is_running m ≡ true → Within 1 (channels m.run.list.stim) 8 → KeepsSizes m (trip m)
unfolding good_size
trip_keeps_sizes m r w k size g = either_way (eqb k 1) (λ e. rw e (left_open (rw (e, state_running m r) at g))) (λ e. rw e (rw e at g))
  where
    left_open : eqb size (size_for 1 (channels m.run.list.stim)) ≡ true → within 4 size 25 && eqb (size % 3) 1 ≡ true
    left_open e =
        let s = eqb-true size (1 + 3 * channels m.run.list.stim) e in
        le-leb 4 size (omega arith) and le-leb size 25 (omega arith) and eq-eqb (size % 3) 1 (omega arith)
