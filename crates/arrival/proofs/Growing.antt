-- A partial frame in its record grows by one byte. Assumes nothing.
use Prim.Native.Nat.{ℕ, suc, ◌+◌, ◌-◌, ◌<◌}
use mathlib.Core.Path.{◌≡◌, refl, ap, ◌∙◌}
use mathlib.Core.List.{List, [], ◌∷◌, ◌++◌, append_assoc}
use native.Mathlib.Omega.{arith}
use lib.ListN.{length, take, replicate, set, length-append}
use lib.Seq.{set_at, take_at}
use Rattle.model.specs.State.{Partial}
use Rattle.partial.specs.declared.PartialFrame.{PartialFrame}
use Rattle.partial.specs.Partial.{filled, frame_of}
use Rattle.arrival.specs.Arriving.{grown}

-- the byte behind those in use
set_behind : (bytes : List ℕ) (n : ℕ) → length bytes < 25 → set (filled bytes) (length bytes) n ≡ filled (bytes ++ n ∷ [])
set_behind bytes n h =
    let left : 25 - length bytes ≡ suc (25 - (length bytes + 1)) = omega arith in
    let longer : length (bytes ++ n ∷ []) ≡ length bytes + 1 = length-append bytes (n ∷ []) in
    rw (left, longer) (set_at bytes 0 (replicate (25 - (length bytes + 1)) 0) n (length bytes) refl ∙ rw append_assoc)

pub grown_frame : (q : Partial) (n : ℕ) → length q.bytes < 25 → grown (frame_of q) n ≡ frame_of (record { bytes = q.bytes ++ n ∷ []; size = q.size })
unfolding frame_of
grown_frame q n h =
    let longer : length (q.bytes ++ n ∷ []) ≡ length q.bytes + 1 = length-append q.bytes (n ∷ []) in
    rw (set_behind q.bytes n h, longer)

-- the bytes in use
used : (q : Partial) → take (frame_of q).len (frame_of q).bytes ≡ q.bytes
unfolding frame_of
used q = take_at q.bytes (replicate (25 - length q.bytes) 0) (length q.bytes) refl

pub used_by : (f : PartialFrame) (q : Partial) → f ≡ frame_of q → take f.len f.bytes ≡ q.bytes
used_by f q e = rw e (used q)

pub len_by : (f : PartialFrame) (q : Partial) → f ≡ frame_of q → f.len ≡ length q.bytes
unfolding frame_of
len_by f q e = ap (λ (x : PartialFrame). x.len) e
