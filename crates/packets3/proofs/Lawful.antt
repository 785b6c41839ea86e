-- The RehaMove3's header, check sum and length belong together. Assumes nothing.
use Prim.Native.Nat.{ℕ, ◌+◌, ◌/◌, ◌%◌, ◌≤◌, ◌<◌}
use mathlib.Core.Bool.{Bool, true, false, ◌&&◌, false≢true}
use mathlib.Core.Path.{◌≡◌, refl, sym, ap, ◌∙◌}
use mathlib.Core.List.{List, [], ◌∷◌, ◌++◌}
use native.Mathlib.Omega.{arith}
use lib.Bits.{bit_xor}
use lib.Dec.{eqb, ltb, leb}
use lib.ListN.{length, drop, get_or, length-drop, drop_of_length-le, get_or-eq_default}
use lib.Seq.{get_or-drop, drop-drop}
use borrow.Author.Tests.{eqb-true, eq-eqb, le-leb, lt-leb, leb-true, ltb-true, ltb-false}
use Rattle.crc.specs.Crc.{crc, crc16}
use Rattle.stuffing.specs.Stuffing.{stuffing_byte, stuffing_key, stuffed, pairs}
use Rattle.stuffing.proofs.Laws.{unstuffed_le}
use Rattle.commands.proofs.Tests.{both}
use Rattle.stuffing.proofs.RoundTrip.{stuffed_unstuffed}
use Rattle.framing.specs.Packet.{body_of}
use Rattle.packets.specs.Laws.{Lawful, body_for}
use Rattle.packets.specs.Reader.{plain}
use Rattle.commands3.specs.Contents.{two}
use Rattle.packets3.specs.Rehamove3.{header_of, says, check_right, length_right, rehamove3}

same : (n : ℕ) → eqb n n ≡ true
same n = eq-eqb n n refl

-- ---- four bytes that say a number

says_two : (n : ℕ) (rest : List ℕ) → says (pairs (two n) ++ rest) n ≡ true
unfolding says pairs
says_two n rest = rw (same (bit_xor (n / 256) stuffing_key), same (bit_xor (n % 256) stuffing_key))

-- no others do
only_two : (n : ℕ) (l : List ℕ) → 4 ≤ length l → says l n ≡ true → pairs (two n) ++ drop 4 l ≡ l
unfolding says pairs
only_two n [] h e = absurd (omega arith)
only_two n (a ∷ []) h e = absurd (omega arith)
only_two n (a ∷ b ∷ []) h e = absurd (omega arith)
only_two n (a ∷ b ∷ c ∷ []) h e = absurd (omega arith)
only_two n (a ∷ b ∷ c ∷ d ∷ rest) h e =
    let p = both (eqb a stuffing_byte) _ e in
    let q = both (eqb b (bit_xor (n / 256) stuffing_key)) _ p.1 in
    let r = both (eqb c stuffing_byte) (eqb d (bit_xor (n % 256) stuffing_key)) q.1 in
    let ea = eqb-true a stuffing_byte p.0 in
    let eb = eqb-true b (bit_xor (n / 256) stuffing_key) q.0 in
    let ec = eqb-true c stuffing_byte r.0 in
    let ed = eqb-true d (bit_xor (n % 256) stuffing_key) r.1 in
    cc

-- ---- a body

last_false : (a b c : Bool) → a && (b && (c && false)) ≡ false
last_false true true true = refl
last_false true true false = refl
last_false true false c = refl
last_false false b c = refl

-- without four bytes a length is not said: the one that is not there is 0
pub length_short : (b : List ℕ) → length b < 4 → false ≡ length_right b
unfolding length_right says
length_short [] h = refl
length_short (a ∷ []) h = sym (last_false (eqb a stuffing_byte) true true)
length_short (a ∷ b ∷ []) h = sym (last_false (eqb a stuffing_byte) (eqb b stuffing_key) true)
length_short (a ∷ b ∷ c ∷ []) h = sym (last_false (eqb a stuffing_byte) (eqb b stuffing_key) (eqb c stuffing_byte))
length_short (a ∷ b ∷ c ∷ d ∷ rest) h = absurd (omega arith)

module _ (body : List ℕ) where
  pub check_short : length body < 8 → false ≡ check_right body
  unfolding check_right says crc
  check_short h =
      rw (drop_of_length-le body {i = 8} (omega arith), get_or-drop 4 body 3 0, get_or-eq_default body 0 {n = 7} (omega arith))
      (sym (last_false (eqb (get_or (drop 4 body) 0 0) stuffing_byte) (eqb (get_or (drop 4 body) 1 0) stuffing_key) (eqb (get_or (drop 4 body) 2 0) stuffing_byte)))

  pub check_long : check_right body ≡ true → 8 ≤ length body
  check_long e = by (ltb (length body) 8) refl
    where
      by : (t : Bool) → ltb (length body) 8 ≡ t → 8 ≤ length body
      by true h = absurd (false≢true (check_short (ltb-true (length body) 8 h) ∙ e))
      by false h = ltb-false (length body) 8 h

  pub length_over : 1198 < length body → false ≡ length_right body
  unfolding length_right
  length_over h = rw (lt-leb (length body + 2) 1200 (omega arith))

  pub length_within : length body ≤ 1198 → says body (length body + 2) ≡ length_right body
  unfolding length_right
  length_within h = rw (le-leb (length body + 2) 1200 (omega arith))

  pub length_most : length_right body ≡ true → length body + 2 ≤ 1200
  unfolding length_right
  length_most e = leb-true (length body + 2) 1200 (both (leb (length body + 2) 1200) (says body (length body + 2)) e).0

-- ---- the header

header_pairs : (content : List ℕ)
    → body_for rehamove3 content ≡ pairs (two (length (stuffed content) + 10)) ++ (pairs (two (crc16 (stuffed content))) ++ stuffed content)
unfolding body_of header_of pairs
header_pairs content = refl

pub length_for : (content : List ℕ) → length (stuffed content) + 10 ≤ 1200 → length_right (body_for rehamove3 content) ≡ true
unfolding length_right pairs
length_for content short =
    let c = stuffed content in
    let n : length (body_for rehamove3 content) + 2 ≡ length c + 10 = ap (λ (l : List ℕ). length l + 2) (header_pairs content) ∙ omega arith in
    rw (n, le-leb (length c + 10) 1200 short, header_pairs content, says_two (length c + 10) (pairs (two (crc16 c)) ++ c))

behind : (content : List ℕ) → drop 8 (pairs (two (length (stuffed content) + 10)) ++ (pairs (two (crc16 (stuffed content))) ++ stuffed content)) ≡ stuffed content
unfolding pairs
behind content = refl

checked : (content : List ℕ) → check_right (pairs (two (length (stuffed content) + 10)) ++ (pairs (two (crc16 (stuffed content))) ++ stuffed content)) ≡ true
unfolding check_right pairs
checked content = says_two (crc16 (stuffed content)) (stuffed content)

pub lawful : Lawful rehamove3
unfolding check_right length_right
lawful =
    record {
      covered_for = λ content. ap (drop 8) (header_pairs content) ∙ behind content;
      check_for = λ content. rw (header_pairs content) (checked content);
      made_again = λ body check long pairs-good.
          let c = drop 8 body in
          let e = check_long body check in
          let l = both (leb (length body + 2) 1200) (says body (length body + 2)) long in
          let again = stuffed_unstuffed false c pairs-good in
          let size : length c + 10 ≡ length body + 2 = omega (arith, length-drop 8 body) in
          header_pairs (plain c)
          ∙ rw (again, size)
          (ap (λ (d : List ℕ). pairs (two (length body + 2)) ++ d) (ap (λ (d : List ℕ). pairs (two (crc16 c)) ++ d) (sym (drop-drop 4 4 body)) ∙ only_two (crc16 c) (drop 4 body) (rw length-drop (omega arith)) check)
          ∙ only_two (length body + 2) body (omega arith) l.1);
      short_data = λ body long size.
          let c = drop 8 body in
          omega (arith, length_most body long, length-drop 2 (plain c), unstuffed_le false c, length-drop 8 body);
    }
