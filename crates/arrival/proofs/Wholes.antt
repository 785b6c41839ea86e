-- Frames that are whole: the reader finds no fault in their shape. Assumes nothing.
use Prim.Native.Nat.{ℕ, zero, suc, ◌+◌, ◌*◌, ◌/◌, ◌%◌, ◌≤◌, ◌<◌}
use mathlib.Core.Bool.{true, false, ◌&&◌, false≢true}
use mathlib.Core.Path.{◌≡◌, refl}
use mathlib.Core.List.{List, [], ◌∷◌, ◌++◌}
use native.Mathlib.Omega.{arith}
use lib.Dec.{ltb, eqb}
use lib.ListN.{length, get_or, take, drop, length-append}
use lib.Seq.{take_all}
use borrow.Author.Tests.{ltb-false, eqb-true, ne_eqb, le-ltb, le-leb, lt-leb}
use Rattle.commands.specs.Ranges.{within, good_count}
use Rattle.commands.proofs.Tests.{both}
use Rattle.frames.specs.Layout.{ident_in, size_for}
use Rattle.frames.specs.Reader.{later, has_high}
use Rattle.model.specs.declared.Core.{Core}
use Rattle.model.specs.Channels.{channels}
use Rattle.model.specs.State.{by_state}
use Rattle.model.specs.Good.{all_low, good_size}
use Rattle.model.proofs.Tests.{either_way}
use Rattle.model.proofs.Partials.{low_append}
use Rattle.partial.proofs.Facts.{OpenFrame, low_no_high, size_most}
use Rattle.effects.specs.Deciding.{told_count, Whole}

-- a high byte, low ones behind it, and so many bytes as its frame has
record Framed (s : List ℕ) : Type 0 where
  some : 0 < length s
  most : length s ≤ 25
  first_is_high : 128 ≤ get_or s 0 0
  rest_low : all_low (drop 1 s) ≡ true
  sized : length s ≡ size_for (ident_in s) (told_count (length s))

-- the reader is told of one to eight channels
counted : (n : ℕ) → n ≤ 25 → good_count (told_count n) ≡ true
counted n h =
    either_way (ltb n 3) (λ e. rw e)
    (λ e.
    let l : 3 ≤ n = ltb-false n 3 e in
    rw (e, le-leb 1 (n / 3) (omega arith), le-leb (n / 3) 8 (omega arith)))

-- such bytes are a whole frame
framed_whole : (s : List ℕ) → Framed s → Whole s
framed_whole s f =
    let size = size_for (ident_in s) (told_count (length s)) in
    let all : take size s ≡ s = take_all size s (omega (arith, f.sized)) in
    let low : has_high (later size s) ≡ false = rw all (low_no_high (drop 1 s) f.rest_low) in
    simp (
      counted (length s) f.most,
      ne_eqb (length s) 0 (omega (arith, f.some)),
      le-leb 128 (get_or s 0 0) f.first_is_high,
      le-ltb (length s) size (omega (arith, f.sized)),
      low,
    )

-- a Stop is whole by its one byte
pub stop_whole : (n : ℕ) → 128 ≤ n → ident_in (n ∷ []) ≡ 2 → Whole (n ∷ [])
stop_whole n h e =
    framed_whole (n ∷ []) (record { some = omega arith; most = omega arith; first_is_high = h; rest_low = refl; sized = rw e })

-- a kept length is that of the frame that the reader is told of
told_size : (m : Core) (k size : ℕ) → 2 ≤ size → good_size m k size ≡ true → size ≡ size_for k (told_count size)
unfolding good_size
told_size m k size h g = either_way (eqb k 1) (λ e. rw (eqb-true k 1 e) (by_state_lem m.state (rw e at g))) (λ e. rw e (eqb-true size _ (rw e at g))) where
  told : (c : ℕ) → size ≡ 1 + 3 * c → 1 ≤ c → size ≡ 1 + 3 * told_count size
  told c e l = rw (le-ltb size 3 (omega arith)) (omega arith)

  by_state_lem : (state : ℕ) → by_state state false (eqb size (size_for 1 (channels m.run.list.stim))) (within 4 size 25 && eqb (size % 3) 1) ≡ true
      → size ≡ 1 + 3 * told_count size
  by_state_lem zero e = absurd (false≢true e)
  by_state_lem (suc zero) e = let c : size ≡ 1 + 3 * channels m.run.list.stim = eqb-true _ _ e in told (channels m.run.list.stim) c (omega arith)
  by_state_lem (suc (suc x)) e =
      let p = both (within 4 size 25) (eqb (size % 3) 1) e in
      let r : size % 3 ≡ 1 = eqb-true _ _ p.1 in
      told (size / 3) (omega arith) (omega arith)

-- a low byte finishes an open frame
pub finished_whole : (m : Core) (size : ℕ) (s : List ℕ) (n : ℕ) → OpenFrame m size s → 0 < length s → n < 128 → length s + 1 ≡ size
    → Whole (s ++ n ∷ [])
finished_whole m size [] n f h l e = absurd (omega arith)
finished_whole m size (b ∷ s) n f h l e =
    let more = length-append s (n ∷ []) in
    let longer : length (b ∷ s ++ n ∷ []) ≡ size = omega (arith, more, e) in
    let most = size_most m (ident_in (b ∷ s)) size f.sized in
    framed_whole (b ∷ s ++ n ∷ []) (record {
      some = omega arith;
      most = omega (arith, longer, most);
      first_is_high = f.first_is_high;
      rest_low = low_append s n f.rest_low (lt-leb 128 n l);
      sized = rw longer (told_size m (ident_in (b ∷ s)) size (omega (arith, f.shorter, h)) f.sized);
    })
