-- Reading on: the packets found in bytes are the first one found, and those found in the bytes after it, read as a slice of their own.
-- Assumes nothing.
use mathlib.Core.Path.{◌≡◌, refl, sym, ap, ap₂, ◌∙◌}
use mathlib.Core.Bool.{Bool, true, false, not, cond, ◌&&◌, false≢true}
use mathlib.Core.List.{List, [], ◌∷◌, map}
use Prim.Native.Nat.{ℕ, zero, suc, ◌+◌, ◌-◌, ◌<◌}
use native.Mathlib.Nat.{zero-add, sub-zero}
use native.Mathlib.Numerals.{add-one}
use native.Mathlib.Omega.{arith}
use lib.Dec.{eqb, ltb}
use lib.ListN.{drop}
use borrow.Author.Tests.{eqb-true, lt-ltb}
use Rattle.stuffing.specs.Stuffing.{stop_byte, stuffing_byte}
use Rattle.framing.specs.declared.Found.{Found}
use Rattle.framing.specs.Scan.{opens, closes, opened, scan, founds}

abbrev pub packet_found : ℕ → ℕ → Found
packet_found body used = record { body = body; used = used }

-- a place k further on, where 0 stands for none
unfoldable pub moved : ℕ → ℕ → ℕ
moved k zero = zero
moved k (suc n) = suc n + k

unfoldable pub shifted : ℕ → Found → Found
shifted k f = record { body = moved k f.body; used = f.used + k }

closes_moved : (k prev body b : ℕ) → closes prev (moved k body) b ≡ closes prev body b
unfolding closes moved
closes_moved k prev zero b = refl
closes_moved k prev (suc n) b =
    ap (λ (t : Bool). not (eqb prev stuffing_byte) && (eqb b stop_byte && t)) (lt-ltb 0 (suc n + k) (omega arith) ∙ sym (lt-ltb 0 (suc n) (omega arith)))

moved_next : (k at : ℕ) → at + k + 1 ≡ moved k (at + 1)
unfolding moved
moved_next k at = rw (add-one at) (omega arith)

opened_moved : (k prev body b at : ℕ) → opened prev (moved k body) b (at + k) ≡ moved k (opened prev body b at)
unfolding opened
opened_moved k prev body b at = by (opens prev b)
  where
    by : (t : Bool) → cond t (at + k + 1) (moved k body) ≡ moved k (cond t (at + 1) body)
    by true = moved_next k at
    by false = refl

-- a scan that starts k further on finds the same, k further on
pub founds_moved : (l : List ℕ) (k prev body at : ℕ) → founds prev (moved k body) (at + k) l ≡ map (shifted k) (founds prev body at l)
unfolding founds shifted moved
founds_moved [] k prev body at = refl
founds_moved (b ∷ l) k prev body at =
    let n : at + k + 1 ≡ at + 1 + k = omega arith in
    rw (closes_moved k prev body b, opened_moved k prev body b at, n)
    (by (closes prev body b) (founds b 0 (at + 1) l) (founds b (opened prev body b at) (at + 1) l)
    (founds_moved l k b 0 (at + 1)) (founds_moved l k b (opened prev body b at) (at + 1)))
  where
    by : (t : Bool) (xs ys : List Found) {x y : List Found} → x ≡ map (shifted k) xs → y ≡ map (shifted k) ys
        → cond t (packet_found (moved k body) (at + 1 + k) ∷ x) y ≡ map (shifted k) (cond t (packet_found body (at + 1) ∷ xs) ys)
    by true xs ys p q = ap (λ (x : List Found). packet_found (moved k body) (at + 1 + k) ∷ x) p
    by false xs ys p q = q

-- after a stop the scan is as fresh
fresh : (l : List ℕ) (at : ℕ) → founds stop_byte 0 at l ≡ founds 0 0 at l
unfolding founds closes opened opens
fresh [] at = refl
fresh (b ∷ l) at = refl

is_stop : (p q r : Bool) → not p && (q && r) ≡ true → q ≡ true
is_stop true q r e = absurd (false≢true e)
is_stop false true r e = refl
is_stop false false r e = e

closes_stop : (prev body b : ℕ) → closes prev body b ≡ true → b ≡ stop_byte
unfolding closes
closes_stop prev body b e = eqb-true b stop_byte (is_stop (eqb prev stuffing_byte) (eqb b stop_byte) (ltb 0 body) e)

-- the place after the stop of the first packet lies past at
scan_later : (l : List ℕ) (prev body at : ℕ) → ((scan prev body at l).used ≡ 0 → ⊥) → at < (scan prev body at l).used
unfolding scan
scan_later [] prev body at h = absurd (h refl)
scan_later (b ∷ l) prev body at h = by (closes prev body b) (scan b (opened prev body b at) (at + 1) l) (scan_later l b (opened prev body b at) (at + 1)) h
  where
    by : (t : Bool) (f : Found) → ((f.used ≡ 0 → ⊥) → at + 1 < f.used)
        → ((cond t (packet_found body (at + 1)) f).used ≡ 0 → ⊥) → at < (cond t (packet_found body (at + 1)) f).used
    by true f ih k = omega arith
    by false f ih k = omega (arith, ih k)

drop_later : (b : ℕ) (l : List ℕ) (u at : ℕ) → at + 1 < u → drop (u - (at + 1)) l ≡ drop (u - at) (b ∷ l)
drop_later b l u at h = let n : u - at ≡ suc (u - (at + 1)) = omega arith in rw n

rest_of : (l : List ℕ) (prev body at : ℕ) → ((scan prev body at l).used ≡ 0 → ⊥)
    → founds prev body at l ≡ scan prev body at l ∷ founds stop_byte 0 (scan prev body at l).used (drop ((scan prev body at l).used - at) l)
unfolding scan founds
rest_of [] prev body at h = absurd (h refl)
rest_of (b ∷ l) prev body at h =
    by (closes prev body b) refl (rest_of l b (opened prev body b at) (at + 1)) (scan_later l b (opened prev body b at) (at + 1)) h
  where
    by : (t : Bool) → closes prev body b ≡ t → {f : Found} {fs : List Found}
        → ((f.used ≡ 0 → ⊥) → fs ≡ f ∷ founds stop_byte 0 f.used (drop (f.used - (at + 1)) l)) → ((f.used ≡ 0 → ⊥) → at + 1 < f.used)
        → ((cond t (packet_found body (at + 1)) f).used ≡ 0 → ⊥)
        → cond t (packet_found body (at + 1) ∷ founds b 0 (at + 1) l) fs
        ≡ cond t (packet_found body (at + 1)) f
        ∷ founds stop_byte 0 (cond t (packet_found body (at + 1)) f).used (drop ((cond t (packet_found body (at + 1)) f).used - at) (b ∷ l))
    by true e ih later k =
        let n : 1 ≡ at + 1 - at = omega arith in
        ap₂ (λ (x m : ℕ). packet_found body (at + 1) ∷ founds x 0 (at + 1) (drop m (b ∷ l))) (closes_stop prev body b e) n
    by false e {f} ih later k = ih k ∙ ap (λ (x : List ℕ). f ∷ founds stop_byte 0 f.used x) (drop_later b l f.used at (later k))

-- THEOREM. A reader that goes on after the bytes it used finds every packet that one scan of all the bytes finds.
pub read_on : (s : List ℕ) → ((scan 0 0 0 s).used ≡ 0 → ⊥)
    → founds 0 0 0 s ≡ scan 0 0 0 s ∷ map (shifted (scan 0 0 0 s).used) (founds 0 0 0 (drop (scan 0 0 0 s).used s))
unfolding moved
read_on s h =
    let u = (scan 0 0 0 s).used in
    rest_of s 0 0 0 h
    ∙ ap (λ (x : List Found). scan 0 0 0 s ∷ x)
    (fresh (drop (u - 0) s) u
    ∙ ap₂ (λ (n m : ℕ). founds 0 0 n (drop m s)) (sym (zero-add u)) (sub-zero u)
    ∙ founds_moved (drop u s) u 0 0 0)
