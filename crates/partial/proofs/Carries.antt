-- A partial frame and the record that carries it: one from the other, and back. Assumes nothing.
use Prim.Native.Nat.{ℕ, ◌-◌, ◌≤◌}
use mathlib.Core.Bool.{true}
use mathlib.Core.Path.{◌≡◌, refl}
use mathlib.Core.List.{List, [], ◌∷◌}
use native.Mathlib.Omega.{arith}
use lib.Dec.{leb}
use lib.ListN.{length, take, drop, replicate, take-append-drop, length-drop}
use lib.Seq.{length-take-le, drop_at}
use borrow.Author.Tests.{leb-true, le-leb}
use Rattle.commands.proofs.Tests.{both}
use Rattle.model.specs.declared.Core.{Core}
use Rattle.model.specs.State.{Partial}
use Rattle.model.specs.Good.{good_partial}
use Rattle.partial.specs.declared.PartialFrame.{PartialFrame}
use Rattle.partial.specs.Partial.{partial_of, filled, frame_of, zeros, unused_zero}
use Rattle.partial.proofs.Zeros.{zeros_are, zeros_zero}
use Rattle.partial.proofs.Facts.{open_facts, size_most}

-- the bytes in use, filled with zeros, are all 25
pub frame_back : (q : PartialFrame) → length q.bytes ≡ 25 → unused_zero q ≡ true → frame_of (partial_of q) ≡ q
unfolding frame_of unused_zero
frame_back q l u =
    let n = q.len in
    let t = both (leb n 25) (zeros (drop n q.bytes)) u in
    let h : n ≤ 25 = leb-true n 25 t.0 in
    let used : length (take n q.bytes) ≡ n = length-take-le n q.bytes (omega arith) in
    let rest : length (drop n q.bytes) ≡ 25 - n = rw l at (length-drop n q.bytes) in
    let whole : filled (take n q.bytes) ≡ q.bytes =
    rw (used, ← rest, zeros_are (drop n q.bytes) t.1) (take-append-drop n q.bytes) in
    λ i. record { bytes = whole i; len = used i; kept = q.kept }

-- a good partial frame has room in the record
pub short : (m : Core) (size : ℕ) (bytes : List ℕ) → good_partial m size bytes ≡ true → length bytes ≤ 25
short m size [] e = omega arith
short m size (b ∷ bytes) e =
    let f = open_facts m size (b ∷ bytes) e (omega arith) in
    omega (arith, f.shorter, size_most m _ size f.sized)

-- bytes not in use are zero
pub frame_unused : (q : Partial) → length q.bytes ≤ 25 → unused_zero (frame_of q) ≡ true
unfolding unused_zero frame_of
frame_unused q h =
    let n = 25 - length q.bytes in
    rw (le-leb (length q.bytes) 25 h, drop_at q.bytes (replicate n 0) (length q.bytes) refl) (zeros_zero n)
