-- Laws of bytes stored from a place on. Assumes nothing.
use borrow.Rule.Slice.PartMut.{put_mid}
use Rattle.std.proofs.lemmas.Slice.{put_mid-paste}
use Prim.Native.Nat.{ℕ, suc, ◌+◌, ◌-◌, ◌≤◌, ◌<◌}
use mathlib.Core.Path.{◌≡◌, refl, sym, ap, ◌∙◌}
use mathlib.Core.List.{List, [], ◌∷◌, ◌++◌}
use native.Mathlib.Nat.{add-zero}
use native.Mathlib.Omega.{arith}
use borrow.Author.Tests.{le-leb, lt-leb}
use lib.ListN.{length, set}
use lib.Seq.{take_all, sets, sets-eq, set_comm}
use Rattle.std.specs.Prelude.{Some, None}
use Rattle.slices.specs.Stored.{stored_in, placed}

-- one part behind the other
pub sets_append : (l a b : List ℕ) (i : ℕ) → sets l i (a ++ b) ≡ sets (sets l i a) (i + length a) b
sets_append l [] b i = rw (add-zero i)
sets_append l (x ∷ a) b i =
    let e : i + suc (length a) ≡ suc i + length a = omega arith in rw e (sets_append (set l i x) a b (suc i))

-- a byte behind them, before or after them
pub sets_before : (l a : List ℕ) (i j v : ℕ) → i + length a ≤ j → sets (set l j v) i a ≡ set (sets l i a) j v
sets_before l [] i j v h = refl
sets_before l (x ∷ a) i j v h =
    ap (λ (m : List ℕ). sets m (suc i) a) (set_comm l j i v x (λ e. omega arith)) ∙ sets_before (set l i x) a (suc i) j v (omega arith)

-- whole, or not at all
module _ (out : List ℕ) (at : ℕ) (bytes : List ℕ) where
  pub store_yes : at + length bytes ≤ length out → stored_in out at bytes ≡ sets out at bytes
  unfolding stored_in
  store_yes h = rw (le-leb (at + length bytes) (length out) h)

  pub store_no : length out < at + length bytes → out ≡ stored_in out at bytes
  unfolding stored_in
  store_no h = rw (lt-leb (at + length bytes) (length out) h)

  pub placed_yes : (end : ℕ) → end ≡ at + length bytes → end ≤ length out → Some end ≡ placed out at bytes
  unfolding placed
  placed_yes end e h = rw (e, le-leb (at + length bytes) (length out) (rw e at h))

  pub placed_no : length out < at + length bytes → None ≡ placed out at bytes
  unfolding placed
  placed_no h = rw (lt-leb (at + length bytes) (length out) h)

  -- a part of the output, and what is put there
  pub store_parts : (end : ℕ) (part : List ℕ) → end ≡ at + length bytes → end ≤ length out → part ≡ bytes
      → put_mid at (end - at) out part ≡ stored_in out at bytes
  store_parts end part e h p =
      let g : at + length bytes ≤ length out = omega arith in
      put_mid-paste at (end - at) out part bytes (length bytes) p (omega arith) refl
      ∙ rw (take_all (length bytes) bytes (omega arith)) (sym (sets-eq bytes out at g) ∙ sym (store_yes g))
