-- Checksum and length of ScienceMode2 are a lawful header. Assumes nothing.
use Prim.Native.Nat.{ℕ, ◌≤◌}
use mathlib.Core.Bool.{true, false}
use mathlib.Core.Path.{◌≡◌, refl}
use mathlib.Core.List.{List, [], ◌∷◌}
use native.Mathlib.Omega.{arith}
use lib.Bits.{bit_xor}
use lib.Dec.{eqb, leb}
use lib.ListN.{length, length-drop}
use borrow.Author.Tests.{eqb-true, eq-eqb, leb-true}
use Rattle.commands.proofs.Tests.{both}
use Rattle.crc.specs.Crc.{crc8}
use Rattle.stuffing.specs.Stuffing.{stuffing_byte, stuffing_key, stuffed, pairs, pairs_good}
use Rattle.stuffing.proofs.RoundTrip.{stuffed_unstuffed}
use Rattle.framing.specs.Packet.{body_of}
use Rattle.packets.specs.Reader.{plain, data_in, covered}
use Rattle.packets.specs.Laws.{body_for, Lawful}
use Rattle.packets2.specs.Rehastim2.{header_of, check_right, length_right, size_good, rehastim2}

covered_for : (content : List ℕ) → covered rehastim2 (body_for rehastim2 content) ≡ stuffed content
unfolding body_of header_of pairs
covered_for content = refl

check_for : (content : List ℕ) → check_right (body_for rehastim2 content) ≡ true
unfolding check_right body_of header_of pairs
check_for content = let x = bit_xor (crc8 (stuffed content)) stuffing_key in eq-eqb x x refl

pub length_for : (content : List ℕ) → length_right (body_for rehastim2 content) ≡ true
unfolding length_right body_of header_of pairs
length_for content = let x = bit_xor (length (stuffed content)) stuffing_key in eq-eqb x x refl

-- the four bytes before the covered ones
made_again : (b : List ℕ) → check_right b ≡ true → length_right b ≡ true → pairs_good false (covered rehastim2 b) ≡ true
    → body_for rehastim2 (plain (covered rehastim2 b)) ≡ b
unfolding check_right length_right body_of header_of pairs
made_again [] p q r = absurd (let z : ◌≡◌ {A = ℕ} 0 1 = cc in omega arith)
made_again (a ∷ []) p q r = absurd (let z : ◌≡◌ {A = ℕ} 0 1 = cc in omega arith)
made_again (a ∷ b ∷ []) p q r = absurd (let z : ◌≡◌ {A = ℕ} 0 1 = cc in omega arith)
made_again (a ∷ b ∷ d ∷ []) p q r = absurd (let e = (both (eqb d stuffing_byte) false q).1 in let z : ◌≡◌ {A = ℕ} 0 1 = cc in omega arith)
made_again (a ∷ b ∷ d ∷ e ∷ c) p q r =
    let check = both (eqb a stuffing_byte) (eqb b (bit_xor (crc8 c) stuffing_key)) p in
    let long = both (eqb d stuffing_byte) (eqb e (bit_xor (length c) stuffing_key)) q in
    let ea = eqb-true a stuffing_byte check.0 in
    let eb = eqb-true b (bit_xor (crc8 c) stuffing_key) check.1 in
    let ed = eqb-true d stuffing_byte long.0 in
    let ee = eqb-true e (bit_xor (length c) stuffing_key) long.1 in
    rw (stuffed_unstuffed false c r) (cc)

pub size_range : (n : ℕ) → size_good n ≡ true → (2 ≤ n) × (n ≤ 62)
unfolding size_good
size_range n e = let t = both (leb 2 n) (leb n 62) e in (leb-true 2 n t.0, leb-true n 62 t.1)

short_data : (c : List ℕ) → size_good (length (plain c)) ≡ true → length (data_in c) ≤ rehastim2.longest
short_data c e = omega (arith, length-drop 2 (plain c), (size_range (length (plain c)) e).1)

pub lawful : Lawful rehastim2
lawful =
    record {
      covered_for = covered_for;
      check_for = check_for;
      made_again = made_again;
      short_data = λ body long size. short_data (covered rehastim2 body) size;
    }
