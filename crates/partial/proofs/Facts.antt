-- What is known of a good partial frame. Assumes nothing.
use Prim.Native.Nat.{ℕ, zero, suc, ◌+◌, ◌*◌, ◌%◌, ◌≤◌, ◌<◌}
use mathlib.Core.Bool.{Bool, true, false, cond, ◌&&◌, false≢true}
use mathlib.Core.Path.{◌≡◌, sym, ◌∙◌}
use mathlib.Core.List.{List}
use native.Mathlib.Omega.{arith}
use lib.Dec.{leb, ltb, eqb}
use lib.ListN.{length, get_or, drop}
use borrow.Author.Tests.{leb-true, ltb-true, eqb-true, le-ltb}
use Rattle.bits.specs.High.{high, first_high}
use Rattle.commands.specs.Ranges.{within}
use Rattle.commands.proofs.Tests.{both}
use Rattle.frames.specs.Layout.{ident_in, size_for}
use Rattle.frames.specs.Reader.{has_high}
use Rattle.model.specs.declared.Core.{Core}
use Rattle.model.specs.Channels.{channels}
use Rattle.model.specs.State.{by_state}
use Rattle.model.specs.Good.{all_low, good_update_size, good_size, good_partial}
use Rattle.model.proofs.Turns.{many_most}
use Rattle.partial.proofs.Lows.{low_found}
use Rattle.partial.proofs.Partials.{open_partial}

-- a high byte followed by low ones, shorter than its kept length, which is the frame's own
pub record OpenFrame (m : Core) (size : ℕ) (bytes : List ℕ) : Type 0 where
  pub first_is_high : 128 ≤ get_or bytes 0 0
  pub rest_low : all_low (drop 1 bytes) ≡ true
  pub shorter : length bytes < size
  pub sized : good_size m (ident_in bytes) size ≡ true

pub open_facts : (m : Core) (size : ℕ) (bytes : List ℕ) → good_partial m size bytes ≡ true → 0 < length bytes → OpenFrame m size bytes
open_facts m size bytes g h =
    let first = high (get_or bytes 0 0) in
    let low = all_low (drop 1 bytes) in
    let shorter = ltb (length bytes) size in
    let t = both (first && low && shorter) (good_size m (ident_in bytes) size) (sym (open_partial m size bytes h) ∙ g) in
    let u = both (first && low) shorter t.0 in
    let v = both first low u.0 in
    record {
      first_is_high = leb-true 128 (get_or bytes 0 0) v.0;
      rest_low = v.1;
      shorter = ltb-true (length bytes) size u.1;
      sized = t.1;
    }

-- no byte of low ones is high
pub low_no_high : (s : List ℕ) → all_low s ≡ true → has_high s ≡ false
low_no_high s e = let f : first_high s ≡ length s = eqb-true _ _ (low_found s ∙ e) in le-ltb (first_high s) (length s) (omega arith)

-- an Update's length, of n channels
update_most : (k size n : ℕ) → n ≤ 8 → by_state k false (eqb size (1 + 3 * n)) (within 4 size 25 && eqb (size % 3) 1) ≡ true → size ≤ 25
update_most zero size n h e = absurd (false≢true e)
update_most (suc zero) size n h e = omega (arith, eqb-true size (1 + 3 * n) e)
update_most (suc (suc k)) size n h e =
    let w = both (within 4 size 25) (eqb (size % 3) 1) e in
    leb-true size 25 (both (leb 4 size) (leb size 25) w.0).1

-- the other frames' lengths
other_most : (a b c : Bool) → cond a 6 (cond b 4 (cond c 1 4)) ≤ 25
other_most true b c = omega arith
other_most false true c = omega arith
other_most false false true = omega arith
other_most false false false = omega arith

-- a kept length is at most 25
pub size_most : (m : Core) (k size : ℕ) → good_size m k size ≡ true → size ≤ 25
unfolding good_size
size_most m k size = by_ident_lem (eqb k 1) where
  by_ident_lem : (update : Bool) → cond update (good_update_size m size) (eqb size (size_for k 1)) ≡ true → size ≤ 25
  by_ident_lem true e = update_most m.state size (channels m.run.list.stim) (many_most m.run.list.stim 0 8) e
  by_ident_lem false e = omega (arith, eqb-true size (size_for k 1) e, other_most (eqb k 0) (eqb k 1) (eqb k 2))
