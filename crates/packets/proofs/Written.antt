-- What a writer answers and leaves, by the bytes that were written. Assumes nothing.
use mathlib.Core.Path.{◌≡◌, refl, sym, ◌∙◌}
use mathlib.Core.Bool.{Bool, true, false, cond, false≢true}
use mathlib.Core.List.{List, ◌++◌}
use Prim.Native.Nat.{ℕ, ◌<◌}
use native.Mathlib.Omega.{arith}
use lib.Dec.{eqb, leb}
use lib.ListN.{length, drop}
use borrow.Author.Tests.{leb-true, leb-false, le-ltb, lt-ltb, eqb-true, eq-eqb}
use Rattle.std.specs.Prelude.{None, Some}
use Rattle.std.proofs.lemmas.Option.{none-some}
use Rattle.commands.specs.declared.Wrote.{Wrote}
use Rattle.framing.specs.Packet.{packet_of, size_written, some_size, written_to}
use Rattle.packets.specs.Writer.{wrote_of, written_of}

no_size : (n : ℕ) → None ≡ some_size n → n ≡ 0
no_size n = by (eqb n 0) refl
  where
    by : (t : Bool) → eqb n 0 ≡ t → None ≡ cond t None (Some n) → n ≡ 0
    by true p e = eqb-true n 0 p
    by false p e = absurd (none-some n e)

a_size : (n u : ℕ) → Some u ≡ some_size n → (u ≡ n) × (n ≡ 0 → ⊥)
a_size n u = by (eqb n 0) refl
  where
    by : (t : Bool) → eqb n 0 ≡ t → Some u ≡ cond t None (Some n) → (u ≡ n) × (n ≡ 0 → ⊥)
    by true p e = absurd (none-some u (sym e))
    by false p e = ((cc), λ (z : n ≡ 0). false≢true (sym p ∙ eq-eqb n 0 z))

module _ (good : Bool) (h content out : List ℕ) where
  abbrev p : List ℕ
  p = packet_of h content

  -- what is handed back and left
  abbrev pub Leaves : Wrote → List ℕ → Type 0
  Leaves w left = (w ≡ wrote_of good p out) × (left ≡ written_of good p out)

  pub not_good : good ≡ false → Leaves (record { answer = 4; used = 0 }) out
  unfolding wrote_of written_of
  not_good e = (rw e, rw e)

  module _ (e : good ≡ true) where
    pub too_short : size_written out h content ≡ 0 → Leaves (record { answer = 16; used = 0 }) (written_to out h content)
    unfolding size_written written_to wrote_of written_of packet_of
    too_short z = by (leb (length p) (length out)) refl z
      where
        by : (t : Bool) → leb (length p) (length out) ≡ t → cond t (length p) 0 ≡ 0
            → Leaves (record { answer = 16; used = 0 }) (cond t (p ++ drop (length p) out) out)
        by true k z = absurd (omega arith)
        by false k z = let q = lt-ltb (length out) (length p) (leb-false _ _ k) in (rw (e, q), rw (e, q))

    pub fits : (size_written out h content ≡ 0 → ⊥) → Leaves (record { answer = 0; used = size_written out h content }) (written_to out h content)
    unfolding size_written written_to wrote_of written_of
    fits z = by (leb (length p) (length out)) refl z
      where
        by : (t : Bool) → leb (length p) (length out) ≡ t → (cond t (length p) 0 ≡ 0 → ⊥)
            → Leaves (record { answer = 0; used = cond t (length p) 0 }) (cond t (p ++ drop (length p) out) out)
        by true k z = let q = le-ltb (length out) (length p) (leb-true _ _ k) in (rw (e, q), rw (e, q))
        by false k z = absurd (z refl)

    -- the same of what is handed back of the size, or of none
    pub none_written : None ≡ some_size (size_written out h content) → Leaves (record { answer = 16; used = 0 }) (written_to out h content)
    none_written n = too_short (no_size (size_written out h content) n)

    pub some_written : (u : ℕ) → Some u ≡ some_size (size_written out h content) → Leaves (record { answer = 0; used = u }) (written_to out h content)
    some_written u n = let s = a_size (size_written out h content) u n in rw s.0 (fits s.1)

-- the bytes written fit one byte where the packet's do
pub size_small : (h content out : List ℕ) → length (packet_of h content) < 256 → size_written out h content < 256
unfolding size_written
size_small h content out small = by (leb (length (packet_of h content)) (length out))
  where
    by : (t : Bool) → cond t (length (packet_of h content)) 0 < 256
    by true = small
    by false = omega arith

-- so do those handed back
pub some_small : (h content out : List ℕ) (u : ℕ) → Some u ≡ some_size (size_written out h content) → length (packet_of h content) < 256 → u < 256
some_small h content out u n small = let s = a_size (size_written out h content) u n in rw s.0 (size_small h content out small)
