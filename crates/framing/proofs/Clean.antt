-- What stands between a written packet's start and its stop neither opens nor closes a packet. Assumes nothing.
use mathlib.Core.Path.{◌≡◌, refl}
use mathlib.Core.Bool.{Bool, true, false, not, ◌&&◌, ◌||◌, or-true, false≢true}
use mathlib.Core.List.{List, [], ◌∷◌, ◌++◌}
use Prim.Native.Nat.{ℕ, suc, ◌+◌, ◌<◌}
use native.Mathlib.Nat.{add-zero}
use native.Mathlib.Omega.{arith}
use lib.Bits.{bit_xor}
use lib.Dec.{eqb, ltb}
use lib.ListN.{length}
use borrow.Author.Tests.{lt-ltb}
use Rattle.stuffing.specs.Stuffing.{start_byte, stop_byte, stuffing_byte, stuffing_key, special, stuffed_byte, stuffed, pairs}
use Rattle.stuffing.proofs.Bytes.{Byte, at240, at15, at129, plain, byte}
use Rattle.commands.proofs.Tests.{both}
use Rattle.framing.specs.Packet.{body_of}
use Rattle.framing.specs.Scan.{opens, closes, opened, scan}
use Rattle.framing.proofs.ReadOn.{packet_found}

-- b, straight after prev, neither opens nor closes
quiet : ℕ → ℕ → Bool
quiet prev b = eqb prev stuffing_byte || not (eqb b start_byte || eqb b stop_byte)

-- nothing in the bytes opens or closes, and they do not end in a stuffing byte
pub clean : ℕ → List ℕ → Bool
clean prev [] = not (eqb prev stuffing_byte)
clean prev (b ∷ l) = quiet prev b && clean b l

quiet_bools : (p q r s : Bool) → p || not (q || r) ≡ true → ((not p && q) ≡ false) × ((not p && (r && s)) ≡ false)
quiet_bools true q r s e = (refl, refl)
quiet_bools false true r s e = absurd (false≢true e)
quiet_bools false false true s e = absurd (false≢true e)
quiet_bools false false false s e = (refl, refl)

quiet_byte : (prev body b : ℕ) → quiet prev b ≡ true → (opens prev b ≡ false) × (closes prev body b ≡ false)
unfolding opens closes quiet
quiet_byte prev body b = quiet_bools (eqb prev stuffing_byte) (eqb b start_byte) (eqb b stop_byte) (ltb 0 body)

-- an open packet's clean bytes, and its stop
pub scan_clean : (l : List ℕ) (prev body at : ℕ) → clean prev l ≡ true → 0 < body → scan prev body at (l ++ stop_byte ∷ []) ≡ packet_found body (at + length l + 1)
unfolding scan clean opened closes
scan_clean [] prev body at e h = rw (e, lt-ltb 0 body h, add-zero at)
scan_clean (b ∷ l) prev body at e h =
    let t = both (quiet prev b) (clean b l) e in
    let q = quiet_byte prev body b t.0 in
    let n : at + suc (length l) + 1 ≡ at + 1 + length l + 1 = omega arith in
    rw (q.1, q.0, n) (scan_clean l b body (at + 1) t.1 h)

-- ---- a header's pairs and stuffed bytes are clean, whatever stands before them
clean_first : (b : ℕ) (c : List ℕ) (prev : ℕ) → ((p : ℕ) → eqb p stuffing_byte ≡ false → clean p (stuffed c) ≡ true) → clean prev (stuffed (b ∷ c)) ≡ true
unfolding stuffed stuffed_byte special clean quiet
clean_first b c prev next = go (byte b)
  where
    go : {x : ℕ} → Byte x → clean prev (stuffed (x ∷ c)) ≡ true
    go at240 = rw (or-true (eqb prev stuffing_byte)) (next 165 refl)
    go at15 = rw (or-true (eqb prev stuffing_byte)) (next 90 refl)
    go at129 = rw (or-true (eqb prev stuffing_byte)) (next 212 refl)
    go (plain x p q r) = simp (p, q, r, or-true) (next x r)

clean_next : (c : List ℕ) (prev : ℕ) → eqb prev stuffing_byte ≡ false → clean prev (stuffed c) ≡ true
unfolding stuffed clean
clean_next [] prev e = rw e
clean_next (b ∷ c) prev e = clean_first b c prev (clean_next c)

pub clean_body : (h : List ℕ) (b : ℕ) (c : List ℕ) (prev : ℕ) → clean prev (body_of h (b ∷ c)) ≡ true
unfolding body_of pairs clean quiet
clean_body [] b c prev = clean_first b c prev (clean_next c)
clean_body (x ∷ h) b c prev = rw (or-true (eqb prev stuffing_byte)) (clean_body h b c (bit_xor x stuffing_key))
