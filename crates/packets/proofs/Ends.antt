-- A finished packet's bytes: its start, its body, its stop. Assumes nothing.
use Prim.Native.Nat.{ℕ, suc, ◌+◌, ◌-◌, ◌<◌}
use mathlib.Core.Bool.{Bool, true, false, not, cond}
use mathlib.Core.Path.{◌≡◌, refl, sym, ap, ap₂, ◌∙◌}
use mathlib.Core.List.{List, [], ◌∷◌, ◌++◌}
use native.Mathlib.Nat.{add-zero}
use native.Mathlib.Omega.{arith}
use lib.Dec.{eqb, ltb}
use lib.ListN.{length, get_or, take, drop, length-drop}
use lib.Seq.{take-suc, drop-cons, get_or-drop}
use borrow.Author.Tests.{eqb-true, ltb-true}
use Rattle.commands.proofs.Tests.{both}
use Rattle.stuffing.specs.Stuffing.{start_byte, stop_byte, stuffing_byte}
use Rattle.framing.specs.declared.Found.{Found}
use Rattle.framing.specs.Scan.{opens, closes, opened, scan, first_found, body_at}
use Rattle.framing.proofs.ReadOn.{packet_found}
use Rattle.framing.proofs.Resync.{scan_within}
use Rattle.packets.specs.Line.{packet_at}
use Rattle.packets.proofs.Readings.{body_in}

-- what stands in s at the ends of a packet found there
record Ends (s : List ℕ) (f : Found) : Type 0 where
  behind : 0 < f.body
  start : get_or s (f.body - 1) 0 ≡ start_byte
  stop : get_or s (f.used - 1) 0 ≡ stop_byte

closed : (prev body b : ℕ) → closes prev body b ≡ true → (b ≡ stop_byte) × (0 < body)
unfolding closes
closed prev body b e =
    let p = both (eqb b stop_byte) (ltb 0 body) (both (not (eqb prev stuffing_byte)) _ e).1 in
    (eqb-true b stop_byte p.0, ltb-true 0 body p.1)

started : (prev b : ℕ) → opens prev b ≡ true → b ≡ start_byte
unfolding opens
started prev b e = eqb-true b start_byte (both (not (eqb prev stuffing_byte)) _ e).1

module _ (s : List ℕ) where
  -- a body that is open lies behind a start
  abbrev Started : ℕ → Type 0
  Started body = 0 < body → get_or s (body - 1) 0 ≡ start_byte

  next_started : (prev body b at : ℕ) → b ≡ get_or s at 0 → Started body → Started (opened prev body b at)
  unfolding opened
  next_started prev body b at e h = by (opens prev b) refl
    where
      by : (t : Bool) → opens prev b ≡ t → Started (cond t (at + 1) body)
      by true o k = ap (λ (i : ℕ). get_or s i 0) (omega arith) ∙ sym e ∙ started prev b o
      by false o k = h k

  -- l are the bytes of s from place at on
  ends : (l : List ℕ) (prev body at : ℕ) → ((i : ℕ) → get_or l i 0 ≡ get_or s (at + i) 0) → Started body → ((scan prev body at l).used ≡ 0 → ⊥)
      → Ends s (scan prev body at l)
  unfolding scan
  ends [] prev body at stand h some = absurd (some refl)
  ends (b ∷ l) prev body at stand h some =
      let here : b ≡ get_or s at 0 = stand 0 ∙ ap (λ (i : ℕ). get_or s i 0) (add-zero at) in
      by (closes prev body b) refl here
      (ends l b (opened prev body b at) (at + 1) (λ i. stand (suc i) ∙ ap (λ (n : ℕ). get_or s n 0) (omega arith)) (next_started prev body b at here h)) some
    where
      by : (t : Bool) → closes prev body b ≡ t → b ≡ get_or s at 0 → {f : Found} → ((f.used ≡ 0 → ⊥) → Ends s f)
          → ((cond t (packet_found body (at + 1)) f).used ≡ 0 → ⊥) → Ends s (cond t (packet_found body (at + 1)) f)
      by true e here ih k =
          let c = closed prev body b e in
          record { behind = c.1; start = h c.1; stop = ap (λ (i : ℕ). get_or s i 0) (omega arith) ∙ sym here ∙ c.0 }
      by false e here ih k = ih k

pub packet_is : (s : List ℕ) → ((first_found s).used ≡ 0 → ⊥) → packet_at s ≡ start_byte ∷ body_in s ++ stop_byte ∷ []
unfolding body_at
packet_is s some =
    let f = first_found s in
    let e = ends s s 0 0 0 (λ i. ap (λ (n : ℕ). get_or s n 0) (omega arith)) (λ k. absurd (omega arith)) some in
    let w = scan_within s 0 0 0 (omega arith) in
    let n = f.used - 1 - f.body in
    let least : 0 < f.body = e.behind in
    let all : f.used - (f.body - 1) ≡ suc (suc n) = omega arith in
    let first : f.body - 1 < length s = omega arith in
    let second : suc (f.body - 1) ≡ f.body = omega arith in
    let from : drop (f.body - 1) s ≡ start_byte ∷ drop f.body s =
    drop-cons s (f.body - 1) 0 first ∙ ap₂ (λ (x i : ℕ). x ∷ drop i s) e.start second in
    let last : n < length (drop f.body s) = omega (arith, length-drop f.body s) in
    let there : f.body + n ≡ f.used - 1 = omega arith in
    ap (λ (k : ℕ). take k (drop (f.body - 1) s)) all
    ∙ ap (take (suc (suc n))) from
    ∙ ap (λ (x : List ℕ). start_byte ∷ x)
    (take-suc (drop f.body s) n 0 last
    ∙ ap (λ (x : ℕ). take n (drop f.body s) ++ x ∷ []) (get_or-drop f.body s n 0 ∙ ap (λ (i : ℕ). get_or s i 0) there ∙ e.stop))
