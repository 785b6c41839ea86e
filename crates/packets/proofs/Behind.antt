-- A whole packet behind garbage, and a finished packet before any bytes: where it is found, and its body. Assumes nothing.
use Prim.Native.Nat.{ℕ, ◌+◌, ◌-◌, ◌≤◌, ◌<◌}
use mathlib.Core.Bool.{Bool, true, false, cond}
use mathlib.Core.Path.{◌≡◌, refl, ap, ◌∙◌}
use mathlib.Core.List.{List, [], ◌∷◌, ◌++◌}
use native.Mathlib.Omega.{arith}
use lib.ListN.{length, drop, length-drop}
use lib.Seq.{take-append-le, drop-append-le}
use borrow.Author.Tests.{ne_eqb}
use Rattle.stuffing.specs.Stuffing.{stuffing_byte}
use Rattle.framing.specs.declared.Found.{Found}
use Rattle.framing.specs.Scan.{closes, opened, scan, founds, first_found, last_of, body_at}
use Rattle.framing.proofs.ReadOn.{packet_found}
use Rattle.framing.proofs.Resync.{scan_first, scan_within, scan_rest, resync_alone, body_alone, first_of}
use Rattle.packets.specs.Line.{Garbage, Alone}
use Rattle.packets.proofs.Readings.{body_in}

-- ---- behind garbage

none_found : (l : List ℕ) (prev body at : ℕ) → (scan prev body at l).used ≡ 0 → founds prev body at l ≡ []
unfolding scan founds
none_found [] prev body at e = refl
none_found (b ∷ l) prev body at e = by (closes prev body b) (scan b (opened prev body b at) (at + 1) l) _ e (none_found l b (opened prev body b at) (at + 1))
  where
    by : (t : Bool) (f : Found) (later : List Found) {fs : List Found} → (cond t (packet_found body (at + 1)) f).used ≡ 0 → (f.used ≡ 0 → fs ≡ [])
        → cond t (packet_found body (at + 1) ∷ later) fs ≡ []
    by true f later k ih = absurd (omega arith)
    by false f later k ih = ih k

pub long_alone : (p : List ℕ) → Alone p → 1 < length p
long_alone p alone = omega (arith, rw alone at (scan_within p 0 0 0 (omega arith)).0)

module _ (g p rest : List ℕ) (garbage : Garbage g) (alone : Alone p) where
  pub found_there : first_found (g ++ (p ++ rest)) ≡ record { body = length g + 1; used = length g + length p }
  unfolding first_of
  found_there =
      scan_first (g ++ (p ++ rest)) 0 0 0
      ∙ ap first_of (resync_alone g p rest alone (ne_eqb (last_of 0 g) stuffing_byte garbage.ends))
      ∙ rw (none_found g 0 0 0 garbage.unfinished)

  pub body_there : body_in (g ++ (p ++ rest)) ≡ body_in p
  body_there = rw (found_there, alone) (body_alone g p rest (omega (arith, long_alone p alone)))

-- ---- before any bytes

module _ (s rest : List ℕ) (some : (first_found s).used ≡ 0 → ⊥) where
  pub found_still : first_found (s ++ rest) ≡ first_found s
  found_still = scan_rest s rest some

  pub body_still : body_in (s ++ rest) ≡ body_in s
  unfolding body_at
  body_still =
      let w = scan_within s 0 0 0 (omega arith) in
      let f = first_found s in
      let b : f.body ≤ length s = omega arith in
      rw (found_still, drop-append-le f.body s rest b)
      (take-append-le (f.used - 1 - f.body) (drop f.body s) rest (omega (arith, length-drop f.body s)))
