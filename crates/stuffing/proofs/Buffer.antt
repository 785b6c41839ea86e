-- Bytes unstuffed into a buffer that has room for them. Assumes nothing.
use mathlib.Core.Path.{◌≡◌, ap, ap₂, ◌∙◌}
use mathlib.Core.Bool.{true, false}
use mathlib.Core.List.{List}
use Prim.Native.Nat.{ℕ, ◌≤◌}
use native.Mathlib.Omega.{arith}
use lib.ListN.{length, take, drop, replicate, length-replicate}
use lib.Seq.{take-append_seam}
use Rattle.slices.specs.Overlay.{overlay}
use Rattle.slices.proofs.Overlay.{overlay_fits}
use Rattle.stuffing.specs.Stuffing.{stuffed, pairs_good, unstuffed}
use Rattle.stuffing.proofs.RoundTrip.{stuffed_unstuffed}

-- they are the buffer's front, and where they pass the test the writer makes c of them
pub front_stuffed : (c : List ℕ) (k n : ℕ) → n ≡ length (unstuffed false c) → pairs_good false c ≡ true
    → n ≤ k → (l : List ℕ) → l ≡ overlay (unstuffed false c) (replicate k 0) → stuffed (take n l) ≡ c
front_stuffed c k n e good fits l f =
    let plain = unstuffed false c in
    let zeros : List ℕ = replicate k 0 in
    let room : length plain ≤ length zeros = omega (arith, length-replicate {A = ℕ} k 0) in
    let front : take n l ≡ plain = ap₂ take e (f ∙ overlay_fits plain zeros room) ∙ take-append_seam plain (drop (length plain) zeros) in
    ap stuffed front ∙ stuffed_unstuffed false c good
