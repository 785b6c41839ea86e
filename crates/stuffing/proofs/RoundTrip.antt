-- Stuffed bytes read back, and bytes that pass the reader's test are what the writer makes of those read. Assumes nothing.
use mathlib.Core.Path.{◌≡◌, refl, sym, ap, ap₂, ◌∙◌, subst}
use mathlib.Core.Bool.{Bool, true, false, not, cond, ◌&&◌, not-not, false≢true}
use mathlib.Core.List.{List, [], ◌∷◌, ◌++◌}
use Prim.Native.Nat.{ℕ}
use lib.Bits.{bit_xor, xor_self, xor_zero_r}
use lib.Dec.{eqb}
use borrow.Author.Tests.{eqb-true}
use Rattle.crc.proofs.Xor.{xor_assoc}
use Rattle.stuffing.specs.Stuffing.{stuffing_byte, stuffing_key, special, stuffed_byte, stuffed, opens_pair, wrong_in, pairs_good, plain_of, unstuffed}
use Rattle.stuffing.proofs.Bytes.{Byte, at240, at15, at129, plain, byte}
use Rattle.stuffing.proofs.Laws.{stuffed_special, stuffed_plain}
use Rattle.commands.proofs.Tests.{both}

-- THEOREM. What was stuffed reads back.
pub unstuffed_stuffed : (c : List ℕ) → unstuffed false (stuffed c) ≡ c
unfolding stuffed stuffed_byte special unstuffed plain_of opens_pair
unstuffed_stuffed [] = refl
unstuffed_stuffed (b ∷ c) = go (unstuffed_stuffed c) (byte b)
  where
    go : unstuffed false (stuffed c) ≡ c → {x : ℕ} → Byte x → unstuffed false (stuffed (x ∷ c)) ≡ x ∷ c
    go ih at240 = ap (λ (l : List ℕ). 240 ∷ l) ih
    go ih at15 = ap (λ (l : List ℕ). 15 ∷ l) ih
    go ih at129 = ap (λ (l : List ℕ). 129 ∷ l) ih
    go ih (plain x p q r) = simp (p, q, r) (ap (λ (l : List ℕ). x ∷ l) ih)

-- THEOREM. What was stuffed passes the reader's test.
pub stuffed_good : (c : List ℕ) → pairs_good false (stuffed c) ≡ true
unfolding stuffed stuffed_byte special pairs_good wrong_in opens_pair
stuffed_good [] = refl
stuffed_good (b ∷ c) = go (stuffed_good c) (byte b)
  where
    go : pairs_good false (stuffed c) ≡ true → {x : ℕ} → Byte x → pairs_good false (stuffed (x ∷ c)) ≡ true
    go ih at240 = ih
    go ih at15 = ih
    go ih at129 = ih
    go ih (plain x p q r) = simp (p, q, r) ih

twice : (b : ℕ) → bit_xor (bit_xor b stuffing_key) stuffing_key ≡ b
twice b = xor_assoc b stuffing_key stuffing_key ∙ ap (bit_xor b) (xor_self stuffing_key) ∙ xor_zero_r b

-- THEOREM. Bytes that pass the test are the stuffed ones of what they stand for; after: a stuffing byte stood before them.
pub stuffed_unstuffed : (after : Bool) (l : List ℕ) → pairs_good after l ≡ true → stuffed (unstuffed after l) ≡ cond after (stuffing_byte ∷ l) l
unfolding stuffed unstuffed plain_of pairs_good wrong_in opens_pair
stuffed_unstuffed false [] e = refl
stuffed_unstuffed true [] e = absurd (false≢true e)
stuffed_unstuffed true (b ∷ l) e =
    let x = bit_xor b stuffing_key in
    let t = both (not (not (special x))) (pairs_good false l) e in
    ap₂ (λ (y z : List ℕ). y ++ z) (stuffed_special x (sym (not-not (special x)) ∙ t.0)) (stuffed_unstuffed false l t.1)
    ∙ ap (λ (n : ℕ). stuffing_byte ∷ n ∷ l) (twice b)
stuffed_unstuffed false (b ∷ l) e = by (eqb b stuffing_byte) (special b) refl refl e (stuffed_unstuffed true l) (stuffed_unstuffed false l)
  where
    by : (t u : Bool) → eqb b stuffing_byte ≡ t → special b ≡ u → (not (u && not t) && pairs_good t l) ≡ true
        → (pairs_good true l ≡ true → stuffed (unstuffed true l) ≡ stuffing_byte ∷ l) → (pairs_good false l ≡ true → stuffed (unstuffed false l) ≡ l)
        → stuffed (cond t [] (b ∷ []) ++ unstuffed t l) ≡ b ∷ l
    by true true p q r f g = f r ∙ ap (λ (n : ℕ). n ∷ l) (sym (eqb-true b stuffing_byte p))
    by true false p q r f g = f r ∙ ap (λ (n : ℕ). n ∷ l) (sym (eqb-true b stuffing_byte p))
    by false true p q r f g = absurd (false≢true r)
    by false false p q r f g = ap₂ (λ (x y : List ℕ). x ++ y) (stuffed_plain b q) (g r)

-- THEOREM. Bytes pass the test exactly if the writer would make them.
pub good_exactly : (l : List ℕ) → (pairs_good false l ≡ true → stuffed (unstuffed false l) ≡ l) × (stuffed (unstuffed false l) ≡ l → pairs_good false l ≡ true)
good_exactly l =
    (stuffed_unstuffed false l, λ (e : stuffed (unstuffed false l) ≡ l). subst (λ (x : List ℕ). pairs_good false x ≡ true) e (stuffed_good (unstuffed false l)))
