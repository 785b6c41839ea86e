-- The laws of a packet's writing that the code's proofs cite: bytes stored one after the other, and a packet's size and parts. Assumes nothing.
use mathlib.Core.Path.{◌≡◌, refl, sym, ap, ap₂, ◌∙◌}
use mathlib.Core.Bool.{Bool, true, false}
use mathlib.Core.List.{List, [], ◌∷◌, ◌++◌}
use Rattle.std.specs.Prelude.{Some}
use Prim.Native.Nat.{ℕ, suc, ◌+◌, ◌≤◌, ◌<◌}
use native.Mathlib.Nat.{add-zero, zero-add}
use native.Mathlib.Omega.{arith}
use lib.Dec.{leb}
use lib.ListN.{length, drop, get_or, set, length-append}
use lib.Seq.{sets, sets-eq}
use borrow.Author.Tests.{leb-true, leb-false, ne_eqb}
use Rattle.stuffing.specs.Stuffing.{start_byte, stop_byte, pairs, stuffed}
use Rattle.stuffing.proofs.Laws.{turn, turn_length, length_pairs}
use Rattle.framing.specs.Packet.{body_of, packet_of, size_written, some_size, written_to}

sets_append : (xs ys out : List ℕ) (at : ℕ) → sets out at (xs ++ ys) ≡ sets (sets out at xs) (at + length xs) ys
sets_append [] ys out at = ap (λ (n : ℕ). sets out n ys) (sym (add-zero at))
sets_append (x ∷ xs) ys out at =
    sets_append xs ys (set out at x) (suc at) ∙ ap (λ (n : ℕ). sets (sets (set out at x) (suc at) xs) n ys) (omega arith)

-- bytes each written by f: what a turn that puts one of them leaves
pub again : (f : ℕ → List ℕ) (all : List ℕ → List ℕ) (nil : all [] ≡ []) (cons : (b : ℕ) (l : List ℕ) → all (b ∷ l) ≡ f b ++ all l)
    (out out' : List ℕ) (to r : ℕ) (s : List ℕ) (i : ℕ) → i < length s → r ≡ to + length (f (get_or s i 0)) → out' ≡ sets out to (f (get_or s i 0))
    → (r + length (all (drop (i + 1) s)) ≡ to + length (all (drop i s))) × (sets out' r (all (drop (i + 1) s)) ≡ sets out to (all (drop i s)))
again f all nil cons out out' to r s i h e e' =
    let rest = all (drop (i + 1) s) in (
      omega (arith, turn_length f all nil cons s i h),
      ap₂ (λ (x : List ℕ) (n : ℕ). sets x n rest) e' e
          ∙ sym (ap (sets out to) (turn f all nil cons s i h) ∙ sets_append (f (get_or s i 0)) rest out to),
    )

-- ---- a packet
module _ (h c : List ℕ) where
  pub length_packet : length (packet_of h c) ≡ length h + length h + length (stuffed c) + 2
  unfolding packet_of body_of
  length_packet = simp length-append (omega (arith, length_pairs h))

  pub packet_put : (out : List ℕ)
      → sets out 0 (packet_of h c)
      ≡ set (sets (sets (set out 0 start_byte) 1 (pairs h)) (1 + length (pairs h)) (stuffed c)) (1 + length (pairs h) + length (stuffed c)) stop_byte
  unfolding packet_of body_of
  packet_put out =
      sets_append (pairs h ++ stuffed c) (stop_byte ∷ []) (set out 0 start_byte) 1
      ∙ ap₂ (λ (x : List ℕ) (n : ℕ). set x n stop_byte) (sets_append (pairs h) (stuffed c) (set out 0 start_byte) 1) (simp length-append (omega arith))

  packet_sets : (out : List ℕ) → length (packet_of h c) ≤ length out → sets out 0 (packet_of h c) ≡ packet_of h c ++ drop (length (packet_of h c)) out
  packet_sets out fit = sets-eq (packet_of h c) out 0 (omega arith) ∙ ap (λ (n : ℕ). packet_of h c ++ drop n out) (zero-add (length (packet_of h c)))

  pub written_yes : (out : List ℕ) → leb (length (packet_of h c)) (length out) ≡ true
      → (length (packet_of h c) ≡ size_written out h c) × (sets out 0 (packet_of h c) ≡ written_to out h c)
  unfolding size_written written_to
  written_yes out e = (rw e, rw e (packet_sets out (leb-true _ _ e)))

  pub written_no : (out : List ℕ) → leb (length (packet_of h c)) (length out) ≡ false → (0 ≡ size_written out h c) × (out ≡ written_to out h c)
  unfolding size_written written_to
  written_no out e = (rw e, rw e)

-- its size, which is not 0, where it has room
pub some_yes : (h c out : List ℕ) (n : ℕ) → n ≡ length (packet_of h c) → leb (length (packet_of h c)) (length out) ≡ true → Some n ≡ some_size (size_written out h c)
some_yes h c out n e f =
    let positive : n ≡ 0 → ⊥ = λ (z : n ≡ 0). omega (arith, length_packet h c) in
    rw (sym (written_yes h c out f).0, sym e, ne_eqb n 0 positive)

pub leb_same : (a b c d : ℕ) → (a ≤ b → c ≤ d) → (c ≤ d → a ≤ b) → leb a b ≡ leb c d
leb_same a b c d f g = by (leb a b) (leb c d) refl refl
  where
    by : (t u : Bool) → leb a b ≡ t → leb c d ≡ u → t ≡ u
    by true true p q = refl
    by false false p q = refl
    by true false p q = absurd (omega (arith, f (leb-true a b p), leb-false c d q))
    by false true p q = absurd (omega (arith, g (leb-true c d q), leb-false a b p))
