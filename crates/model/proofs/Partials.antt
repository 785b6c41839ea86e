-- A partial frame stays good, whatever arrives. Assumes nothing.
use Prim.Native.Nat.{ℕ, suc, ◌≤◌}
use mathlib.Core.Bool.{true, false, cond, not}
use mathlib.Core.Path.{◌≡◌, refl}
use mathlib.Core.List.{List, [], ◌∷◌, ◌++◌}
use native.Mathlib.Omega.{arith}
use lib.Dec.{ltb, eqb}
use lib.ListN.{length, length-append}
use borrow.Author.Tests.{lt-ltb, ltb-true, eqb-false}
use Rattle.bits.specs.High.{high}
use Rattle.commands.proofs.Tests.{both}
use Rattle.frames.proofs.Judging.{size_pos}
use Rattle.frames.specs.Layout.{ident_in, size_for}
use Rattle.model.specs.declared.Core.{Core}
use Rattle.model.specs.Channels.{channels}
use Rattle.model.specs.State.{Partial, is_running}
use Rattle.model.specs.Arrival.{Arrival, Arrival.stray, Arrival.alone, Arrival.growing, Arrival.whole, lengthened, opened, followed, arrive}
use Rattle.model.specs.Good.{all_low, good_size, good_partial}
use Rattle.model.proofs.Tests.{◌and◌, each, either_way}
use Rattle.model.proofs.GoodRuns.{Within}
use Rattle.model.proofs.Sizes.{list_size, own_size}

-- what arrives leaves a good partial frame
abbrev pub Sound : Core → Arrival → Type 0
Sound m stray = Unit
Sound m alone = Unit
Sound m (growing q) = good_partial m q.size q.bytes ≡ true
Sound m (whole bytes) = Unit

-- a high byte with low ones behind it, no longer than a length that is good
module _ (m : Core) (b : ℕ) (bytes : List ℕ) (size : ℕ) where
  lengthened_sound : high b ≡ true → all_low bytes ≡ true → length (b ∷ bytes) ≤ size → good_size m (ident_in (b ∷ [])) size ≡ true
      → Sound m (lengthened (b ∷ bytes) size)
  unfolding lengthened good_partial
  lengthened_sound h low l g =
      either_way (eqb (length (b ∷ bytes)) size) (λ e. rw e tt)
      (λ e.
      let d : length (b ∷ bytes) ≡ size → ⊥ = eqb-false (length (b ∷ bytes)) size e in
      rw e (h and low and lt-ltb (length (b ∷ bytes)) size (omega arith) and g))

-- low bytes, and one more
pub low_append : (bytes : List ℕ) (n : ℕ) → all_low bytes ≡ true → high n ≡ false → all_low (bytes ++ n ∷ []) ≡ true
low_append [] n h l = rw l
low_append (b ∷ bytes) n h l =
    let p = both (not (high b)) (all_low bytes) h in
    p.0 and low_append bytes n p.1 l

-- a low byte behind a good partial frame
followed_sound : (m : Core) (n : ℕ) → high n ≡ false → (bytes : List ℕ) (size : ℕ) → good_partial m size bytes ≡ true
    → Sound m (followed (record { bytes = bytes; size = size }) n)
unfolding followed good_partial
followed_sound m n l [] size g = rw g tt
followed_sound m n l (b ∷ bytes) size g =
    let t = each (high b) (all_low bytes ∷ ltb (suc (length bytes)) size ∷ good_size m (ident_in (b ∷ [])) size ∷ []) g in
    let s = ltb-true (suc (length bytes)) size (t 2) in
    let e = length-append bytes (n ∷ []) in
    either_way (eqb size 0) (λ e. rw e tt)
    (λ z. rw z (lengthened_sound m b (bytes ++ n ∷ []) size (t 0) (low_append bytes n (t 1) l) (omega arith) (t 3)))

-- a high byte; a running list has channels
opened_sound : (m : Core) (n : ℕ) → high n ≡ true → (is_running m ≡ true → Within 1 (channels m.run.list.stim) 8)
    → Sound m (opened m n)
unfolding opened good_partial good_size
opened_sound m n h some = either_way (eqb (ident_in (n ∷ [])) 1) (λ e. rw e (update e)) (λ e. rw e (rw e at (other e)))
  where
    size : ℕ
    size = size_for 1 (channels m.run.list.stim)

    update : eqb (ident_in (n ∷ [])) 1 ≡ true → Sound m (cond (is_running m) (growing (record { bytes = n ∷ []; size = size })) alone)
    update e =
        either_way (is_running m)
        (λ r.
        let w = some r in
        rw r (h and refl and lt-ltb 1 size (omega arith) and list_size m (ident_in (n ∷ [])) e r))
        (λ r. rw r tt)

    other : eqb (ident_in (n ∷ [])) 1 ≡ false → Sound m (lengthened (n ∷ []) (size_for (ident_in (n ∷ [])) 1))
    other e =
        let k : ℕ = ident_in (n ∷ []) in lengthened_sound m n [] (size_for k 1) h refl (size_pos k 1) (own_size m k (size_for k 1) e refl)

-- any byte
pub arrive_sound : (m : Core) (q : Partial) (n : ℕ) → (is_running m ≡ true → Within 1 (channels m.run.list.stim) 8)
    → good_partial m q.size q.bytes ≡ true → Sound m (arrive m q n)
unfolding arrive
arrive_sound m q n some g =
    either_way (high n) (λ e. rw e (opened_sound m n e some)) (λ e. rw e (followed_sound m n e q.bytes q.size g))
