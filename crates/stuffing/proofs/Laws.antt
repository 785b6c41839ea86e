-- The laws of stuffing that the code's proofs cite. Assumes nothing.
use mathlib.Core.Path.{◌≡◌, refl, sym, ap, ◌∙◌}
use mathlib.Core.Bool.{Bool, true, false, not, cond, ◌&&◌, ◌||◌, or-false, false≢true}
use mathlib.Core.List.{List, [], ◌∷◌, ◌++◌}
use Prim.Native.Nat.{ℕ, suc, ◌+◌, ◌≤◌, ◌<◌}
use native.Mathlib.Numerals.{add-one}
use native.Mathlib.Omega.{arith}
use lib.Bits.{bit_xor}
use lib.Dec.{eqb}
use lib.ListN.{length, drop, get_or, length-append, drop_of_length-le}
use lib.Seq.{drop-cons}
use Rattle.stuffing.specs.Stuffing.{stuffing_byte, stuffing_key, special, any_special, pair, stuffed_byte, stuffed, pairs, opens_pair, wrong_in, pairs_good, plain_of, unstuffed}

-- ---- a byte
pub stuffed_special : (b : ℕ) → special b ≡ true → stuffed_byte b ≡ pair b
unfolding stuffed_byte
stuffed_special b e = rw e

pub stuffed_plain : (b : ℕ) → special b ≡ false → stuffed_byte b ≡ b ∷ []
unfolding stuffed_byte
stuffed_plain b e = rw e

pub size_le : (b n : ℕ) → n ≡ length (stuffed_byte b) → n ≤ 2
unfolding stuffed_byte
size_le b n = by (special b)
  where
    by : (t : Bool) → n ≡ length (cond t (pair b) (b ∷ [])) → n ≤ 2
    by true e = omega arith
    by false e = omega arith

pub length_stuffed_le : (l : List ℕ) → length (stuffed l) ≤ length l + length l
unfolding stuffed
length_stuffed_le [] = omega arith
length_stuffed_le (b ∷ l) = rw length-append (omega (arith, size_le b _ refl, length_stuffed_le l))

-- bytes stand for no more bytes than they are
pub unstuffed_le : (after : Bool) (c : List ℕ) → length (unstuffed after c) ≤ length c
unfolding unstuffed plain_of opens_pair
unstuffed_le after [] = omega arith
unstuffed_le true (b ∷ c) = omega (arith, unstuffed_le false c)
unstuffed_le false (b ∷ c) = by (eqb b stuffing_byte) (λ after. unstuffed_le after c)
  where
    by : (t : Bool) → ((after : Bool) → length (unstuffed after c) ≤ length c) → length (cond t [] (b ∷ []) ++ unstuffed t c) ≤ suc (length c)
    by true k = omega (arith, k true)
    by false k = omega (arith, k false)

-- ---- is any special? a turn of a loop, and its end
pub any_on : (s : List ℕ) (i : ℕ) → i < length s → any_special (drop i s) ≡ (special (get_or s i 0) || any_special (drop (i + 1) s))
unfolding any_special
any_on s i h = rw (add-one i, drop-cons s i 0)

pub any_end : (any : Bool) (s : List ℕ) (i : ℕ) → length s ≤ i → any ≡ (any || any_special (drop i s))
unfolding any_special
any_end any s i h = rw (drop_of_length-le s h) (sym (or-false any))

-- where none is, they stand for themselves, and stuffing leaves them
pub none_stuffed : (s : List ℕ) → any_special s ≡ false → stuffed s ≡ s
unfolding any_special stuffed
none_stuffed [] e = refl
none_stuffed (b ∷ s) e = by (special b) refl e (none_stuffed s)
  where
    by : (t : Bool) → special b ≡ t → (t || any_special s) ≡ false → (any_special s ≡ false → stuffed s ≡ s) → stuffed (b ∷ s) ≡ b ∷ s
    by true p q f = absurd (false≢true (sym q))
    by false p q f = ap (λ (l : List ℕ). l ++ stuffed s) (stuffed_plain b p) ∙ ap (λ (l : List ℕ). b ∷ l) (f q)

-- ---- bytes, each written by f; stuffed and pairs are two of these
module _ (f : ℕ → List ℕ) (all : List ℕ → List ℕ) (nil : all [] ≡ []) (cons : (b : ℕ) (l : List ℕ) → all (b ∷ l) ≡ f b ++ all l) where
  pub turn : (s : List ℕ) (i : ℕ) → i < length s → all (drop i s) ≡ f (get_or s i 0) ++ all (drop (i + 1) s)
  turn s i h = rw (add-one i, drop-cons s i 0) (cons (get_or s i 0) (drop (suc i) s))

  pub turn_length : (s : List ℕ) (i : ℕ) → i < length s → length (all (drop i s)) ≡ length (f (get_or s i 0)) + length (all (drop (i + 1) s))
  turn_length s i h = ap length (turn s i h) ∙ length-append (f (get_or s i 0)) (all (drop (i + 1) s))

  pub end : (s : List ℕ) (i : ℕ) → length s ≤ i → all (drop i s) ≡ []
  end s i h = ap all (drop_of_length-le s h) ∙ nil

pub stuffed_nil : stuffed [] ≡ []
unfolding stuffed
stuffed_nil = refl

pub stuffed_cons : (b : ℕ) (l : List ℕ) → stuffed (b ∷ l) ≡ stuffed_byte b ++ stuffed l
unfolding stuffed
stuffed_cons b l = refl

pub pairs_nil : pairs [] ≡ []
unfolding pairs
pairs_nil = refl

pub pairs_cons : (b : ℕ) (l : List ℕ) → pairs (b ∷ l) ≡ pair b ++ pairs l
unfolding pairs
pairs_cons b l = refl

pub length_pairs : (l : List ℕ) → length (pairs l) ≡ length l + length l
unfolding pairs
length_pairs [] = refl
length_pairs (b ∷ l) = omega (arith, length_pairs l)

-- ---- reading back, a byte
module _ (b : ℕ) (after : Bool) where
  pub wrong_after : after ≡ true → not (special (bit_xor b stuffing_key)) ≡ wrong_in after b
  unfolding wrong_in
  wrong_after e = rw e

  pub wrong_plain : after ≡ false → (special b && not (eqb b stuffing_byte)) ≡ wrong_in after b
  unfolding wrong_in
  wrong_plain e = rw e

plain_none : (after : Bool) (b : ℕ) → opens_pair after b ≡ true → plain_of after b ≡ []
unfolding opens_pair plain_of
plain_none true b e = absurd (false≢true e)
plain_none false b e = rw e

plain_one : (after : Bool) (b : ℕ) → opens_pair after b ≡ false → plain_of after b ≡ cond after (bit_xor b stuffing_key) b ∷ []
unfolding opens_pair plain_of
plain_one true b e = refl
plain_one false b e = rw e

-- ---- reading back, a turn of a loop over bytes, and its end
module _ (after : Bool) (s : List ℕ) (i : ℕ) where
  pub good_on : i < length s → pairs_good after (drop i s) ≡ (not (wrong_in after (get_or s i 0)) && pairs_good (opens_pair after (get_or s i 0)) (drop (i + 1) s))
  unfolding pairs_good
  good_on h = rw (add-one i, drop-cons s i 0)

  pub good_end : length s ≤ i → pairs_good after (drop i s) ≡ not after
  unfolding pairs_good
  good_end h = rw (drop_of_length-le s h)

  -- a byte that opens a pair stands for none, any other for one
  pub unstuffed_none : i < length s → opens_pair after (get_or s i 0) ≡ true → unstuffed after (drop i s) ≡ unstuffed true (drop (i + 1) s)
  unfolding unstuffed
  unstuffed_none h e = rw (add-one i, drop-cons s i 0, plain_none after (get_or s i 0) e, e)

  pub unstuffed_one : i < length s → opens_pair after (get_or s i 0) ≡ false
      → unstuffed after (drop i s) ≡ cond after (bit_xor (get_or s i 0) stuffing_key) (get_or s i 0) ∷ unstuffed false (drop (i + 1) s)
  unfolding unstuffed
  unstuffed_one h e = rw (add-one i, drop-cons s i 0, plain_one after (get_or s i 0) e, e)

  pub unstuffed_end : length s ≤ i → unstuffed after (drop i s) ≡ []
  unfolding unstuffed
  unstuffed_end h = rw (drop_of_length-le s h)

  pub size_on : (opens : Bool) → i < length s → opens ≡ opens_pair after (get_or s i 0)
      → length (unstuffed after (drop i s)) ≡ cond opens 0 1 + length (unstuffed opens (drop (i + 1) s))
  size_on true h e = omega (arith, ap length (unstuffed_none h (sym e)))
  size_on false h e = omega (arith, ap length (unstuffed_one h (sym e)))
