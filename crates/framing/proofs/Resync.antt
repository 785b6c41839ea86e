-- Resynchronisation: after any bytes that do not end in a stuffing byte, a packet that alone is whole is found as if it stood alone; and one that
-- was written is whole alone. Assumes nothing.
use mathlib.Core.Path.{◌≡◌, refl, sym, ap, ◌∙◌}
use mathlib.Core.Bool.{Bool, true, false, cond, and-false}
use mathlib.Core.List.{List, [], ◌∷◌, ◌++◌, map}
use Prim.Native.Nat.{ℕ, suc, ◌+◌, ◌-◌, ◌≤◌, ◌<◌}
use native.Mathlib.Nat.{add-zero, zero-add, add_comm}
use native.Mathlib.Omega.{arith}
use lib.Dec.{eqb}
use lib.ListN.{length, drop, length-append}
use lib.Seq.{take_at, take-append-le, drop-append_seam, drop-append-add}
use borrow.Author.Tests.{eqb-true}
use Rattle.stuffing.specs.Stuffing.{start_byte, stop_byte, stuffing_byte}
use Rattle.framing.specs.declared.Found.{Found}
use Rattle.framing.specs.Packet.{body_of, packet_of}
use Rattle.framing.specs.Scan.{none, opens, closes, opened, scan, founds, last_of, body_at}
use Rattle.framing.proofs.ReadOn.{packet_found, moved, shifted, founds_moved, read_on}
use Rattle.framing.proofs.Clean.{scan_clean, clean_body}

-- ---- the first packet found
unfoldable pub first_of : List Found → Found
first_of [] = none
first_of (f ∷ fs) = f

pub scan_first : (l : List ℕ) (prev body at : ℕ) → scan prev body at l ≡ first_of (founds prev body at l)
unfolding scan founds first_of
scan_first [] prev body at = refl
scan_first (b ∷ l) prev body at = by (closes prev body b) (founds b (opened prev body b at) (at + 1) l) (scan_first l b (opened prev body b at) (at + 1))
  where
    by : (t : Bool) (fs : List Found) {f : Found} → f ≡ first_of fs
        → cond t (packet_found body (at + 1)) f ≡ first_of (cond t (packet_found body (at + 1) ∷ founds b 0 (at + 1) l) fs)
    by true fs ih = refl
    by false fs ih = ih

-- it lies within the bytes
opened_le : (prev body b at : ℕ) → body ≤ at → opened prev body b at ≤ at + 1
unfolding opened
opened_le prev body b at h = by (opens prev b)
  where
    by : (t : Bool) → cond t (at + 1) body ≤ at + 1
    by true = omega arith
    by false = omega arith

pub scan_within : (l : List ℕ) (prev body at : ℕ) → body ≤ at
    → ((scan prev body at l).body ≤ (scan prev body at l).used - 1) × ((scan prev body at l).used ≤ at + length l)
unfolding scan
scan_within [] prev body at h = (omega arith, omega arith)
scan_within (b ∷ l) prev body at h =
    by (closes prev body b) (scan b (opened prev body b at) (at + 1) l) (scan_within l b (opened prev body b at) (at + 1) (opened_le prev body b at h))
  where
    by : (t : Bool) (f : Found) → (f.body ≤ f.used - 1) × (f.used ≤ at + 1 + length l)
        → ((cond t (packet_found body (at + 1)) f).body ≤ (cond t (packet_found body (at + 1)) f).used - 1)
        × ((cond t (packet_found body (at + 1)) f).used ≤ at + suc (length l))
    by true f ih = (omega arith, omega arith)
    by false f ih = (ih.0, omega (arith, ih.1))

-- and what stands behind it changes nothing
scan_on : (l rest : List ℕ) (prev body at : ℕ) → ((scan prev body at l).used ≡ 0 → ⊥) → scan prev body at (l ++ rest) ≡ scan prev body at l
unfolding scan
scan_on [] rest prev body at h = absurd (h refl)
scan_on (b ∷ l) rest prev body at h = by (closes prev body b) (scan b (opened prev body b at) (at + 1) l) (scan_on l rest b (opened prev body b at) (at + 1)) h
  where
    by : (t : Bool) (f : Found) {f' : Found} → ((f.used ≡ 0 → ⊥) → f' ≡ f) → ((cond t (packet_found body (at + 1)) f).used ≡ 0 → ⊥)
        → cond t (packet_found body (at + 1)) f' ≡ cond t (packet_found body (at + 1)) f
    by true f ih k = refl
    by false f ih k = ih k

pub scan_rest : (s rest : List ℕ) → ((scan 0 0 0 s).used ≡ 0 → ⊥) → scan 0 0 0 (s ++ rest) ≡ scan 0 0 0 s
scan_rest s rest = scan_on s rest 0 0 0

-- ---- bytes that begin with a start byte, behind any that do not end in a stuffing byte
start_anew : (l : List ℕ) (prev body at : ℕ) → eqb prev stuffing_byte ≡ false
    → founds prev body at (start_byte ∷ l) ≡ map (shifted at) (founds 0 0 0 (start_byte ∷ l))
unfolding founds closes opened opens moved
start_anew l prev body at e = rw (e, add_comm at 1) (founds_moved l at start_byte 1 1)

turn : (t : Bool) (f : Found) (x y z : List Found) {xs ys : List Found} → xs ≡ x ++ z → ys ≡ y ++ z → cond t (f ∷ xs) ys ≡ cond t (f ∷ x) y ++ z
turn true f x y z p q = ap (λ (l : List Found). f ∷ l) p
turn false f x y z p q = q

behind : (g : List ℕ) (prev body at : ℕ) (l : List ℕ) → eqb (last_of prev g) stuffing_byte ≡ false
    → founds prev body at (g ++ start_byte ∷ l) ≡ founds prev body at g ++ map (shifted (at + length g)) (founds 0 0 0 (start_byte ∷ l))
unfolding founds last_of
behind [] prev body at l e = start_anew l prev body at e ∙ ap (λ (n : ℕ). map (shifted n) (founds 0 0 0 (start_byte ∷ l))) (sym (add-zero at))
behind (b ∷ g) prev body at l e =
    let n : at + suc (length g) ≡ at + 1 + length g = omega arith in
    rw n
    (turn (closes prev body b) (packet_found body (at + 1)) (founds b 0 (at + 1) g) (founds b (opened prev body b at) (at + 1) g) _
    (behind g b 0 (at + 1) l e) (behind g b (opened prev body b at) (at + 1) l e))

-- ---- a packet that alone is whole

-- a packet whose body is at place 1 was opened at place 0
not_one : (l : List ℕ) (prev body at : ℕ) → (body ≡ 1 → ⊥) → 0 < at → (scan prev body at l).body ≡ 1 → ⊥
unfolding scan opened
not_one [] prev body at h k e = omega arith
not_one (b ∷ l) prev body at h k e = by (closes prev body b) (opens prev b) (λ n. not_one l b n (at + 1)) e
  where
    by : (t u : Bool) → ((n : ℕ) → (n ≡ 1 → ⊥) → 0 < at + 1 → (scan b n (at + 1) l).body ≡ 1 → ⊥)
        → (cond t (packet_found body (at + 1)) (scan b (cond u (at + 1) body) (at + 1) l)).body ≡ 1 → ⊥
    by true u ih = h
    by false true ih = ih (at + 1) (λ z. omega arith) (omega arith)
    by false false ih = ih body h (omega arith)

starts : (p : List ℕ) → scan 0 0 0 p ≡ packet_found 1 (length p) → (l : List ℕ) × (p ≡ start_byte ∷ l)
unfolding scan closes opened opens
starts [] e = absurd (omega (arith, ap (λ (f : Found). f.body) e))
starts (b ∷ l) e = by (eqb b start_byte) refl (rw (and-false (eqb b stop_byte)) at e)
  where
    by : (t : Bool) → eqb b start_byte ≡ t → scan b (cond t 1 0) 1 l ≡ packet_found 1 (suc (length l)) → (r : List ℕ) × (b ∷ l ≡ start_byte ∷ r)
    by true p q = (l, ap (λ (n : ℕ). n ∷ l) (eqb-true b start_byte p))
    by false p q = absurd (not_one l b 0 1 (λ z. omega arith) (omega arith) (ap (λ (f : Found). f.body) q))

alone_first : (p rest : List ℕ) → scan 0 0 0 p ≡ packet_found 1 (length p) → founds 0 0 0 (p ++ rest) ≡ packet_found 1 (length p) ∷ founds 0 0 (length p) rest
unfolding moved
alone_first p rest alone =
    let n = length p in
    let some : (scan 0 0 0 p).used ≡ 0 → ⊥ = λ z. omega (arith, scan_within p 0 0 0 (omega arith), ap (λ (f : Found). f.body) alone) in
    let first : scan 0 0 0 (p ++ rest) ≡ packet_found 1 n = scan_rest p rest some ∙ alone in
    read_on (p ++ rest) (λ z. some (ap (λ (f : Found). f.used) (sym (scan_rest p rest some)) ∙ z))
    ∙ ap (λ (f : Found). f ∷ map (shifted f.used) (founds 0 0 0 (drop f.used (p ++ rest)))) first
    ∙ ap (λ (x : List ℕ). packet_found 1 n ∷ map (shifted n) (founds 0 0 0 x)) (drop-append_seam p rest)
    ∙ ap (λ (x : List Found). packet_found 1 n ∷ x) (sym (founds_moved rest n 0 0 0) ∙ ap (λ (m : ℕ). founds 0 0 m rest) (zero-add n))

-- THEOREM. In bytes g that do not end in a stuffing byte, then a packet that alone is whole, then anything, the packets found are those that g
-- alone holds, then the packet, then those found after its stop.
pub resync_alone : (g p rest : List ℕ) → scan 0 0 0 p ≡ packet_found 1 (length p) → eqb (last_of 0 g) stuffing_byte ≡ false
    → founds 0 0 0 (g ++ (p ++ rest)) ≡ founds 0 0 0 g ++ packet_found (length g + 1) (length g + length p) ∷ founds 0 0 (length g + length p) rest
unfolding moved shifted
resync_alone g p rest alone e =
    let m = length g in
    let n = length p in
    let s = starts p alone in
    rw (add_comm m 1, add_comm m n)
    (begun p s.0 s.1
    ∙ ap (λ (x : List Found). founds 0 0 0 g ++ map (shifted m) x) (alone_first p rest alone)
    ∙ ap (λ (x : List Found). founds 0 0 0 g ++ packet_found (1 + m) (n + m) ∷ x) (sym (founds_moved rest m 0 0 n)))
  where
    begun : (q l : List ℕ) → q ≡ start_byte ∷ l → founds 0 0 0 (g ++ (q ++ rest)) ≡ founds 0 0 0 g ++ map (shifted (length g)) (founds 0 0 0 (q ++ rest))
    begun q l a = rw (a, ← (zero-add (length g))) (behind g 0 0 0 (l ++ rest) e)

-- THEOREM. A packet that was written, with a content, is whole alone.
pub packet_alone : (h : List ℕ) (b : ℕ) (c : List ℕ) → scan 0 0 0 (packet_of h (b ∷ c)) ≡ packet_found 1 (length (packet_of h (b ∷ c)))
unfolding packet_of scan closes opened opens
packet_alone h b c =
    let l = body_of h (b ∷ c) in
    let n : 1 + length l + 1 ≡ suc (length (l ++ stop_byte ∷ [])) = simp length-append (omega arith) in
    scan_clean l start_byte 1 1 (clean_body h b c start_byte) (omega arith) ∙ ap (packet_found 1) n

-- THEOREM. Where a packet is found after other bytes, its body is the one that it has alone.
pub body_alone : (g p rest : List ℕ) → 0 < length p
    → body_at (g ++ (p ++ rest)) (packet_found (length g + 1) (length g + length p)) ≡ body_at p (packet_found 1 (length p))
unfolding body_at
body_alone g [] rest h = absurd (omega arith)
body_alone g (x ∷ l) rest h =
    let n : length g + suc (length l) - 1 - (length g + 1) ≡ suc (length l) - 1 - 1 = omega arith in
    rw (n, drop-append-add g (x ∷ l ++ rest) 1) (take-append-le (suc (length l) - 1 - 1) l rest (omega arith))

-- and a written one's body is what was written between start and stop
pub body_after : (g h c rest : List ℕ) → body_at (g ++ (packet_of h c ++ rest)) (packet_found (length g + 1) (length g + length (packet_of h c))) ≡ body_of h c
unfolding body_at packet_of
body_after g h c rest =
    let l = body_of h c in
    let n : length l ≡ suc (length (l ++ stop_byte ∷ [])) - 1 - 1 = simp length-append (omega arith) in
    body_alone g (packet_of h c) rest (omega arith) ∙ take_at l (stop_byte ∷ []) _ n
