-- Laws of reading a number in front. Assumes nothing.
use Prim.Native.Nat.{ℕ, ◌+◌, ◌-◌, ◌*◌, ◌≤◌, ◌<◌}
use mathlib.Core.Logic.{⊎_elim}
use Rattle.std.proofs.lemmas.Option.{none-some, same_Some}
use mathlib.Core.Bool.{Bool, true, false, cond}
use mathlib.Core.Path.{◌≡◌, refl, sym, ap, ◌∙◌}
use mathlib.Core.List.{List, [], ◌∷◌}
use native.Mathlib.Omega.{arith}
use borrow.Author.Tests.{le-leb, lt-leb, eq-eqb, ne_eqb}
use lib.Dec.{leb}
use lib.ListN.{length, drop, get_or, drop_of_length-le}
use lib.Seq.{drop-cons}
use native.Mathlib.Numerals.{add-one}
use Rattle.commands.proofs.Tests.{both}
use Rattle.decimal.proofs.Digits.{digit_range}
use Rattle.std.specs.Prelude.{Some, None, ◌⊎◌}
use Rattle.decimal.specs.declared.Number.{Number}
use Rattle.decimal.specs.Decimal.{is_digit, all_digits, no_leading_zero, value_from, number_in}
use Rattle.decimal.specs.Front.{front, largest, small, number_in_front}
use Rattle.decimal.proofs.Values.{value_grows}
use Rattle.decimal.proofs.Front.{cut}

-- ---- digit by digit

-- with i digits read, which stand for v, the rest of them makes the whole number
pub record Reading (l : List ℕ) (v i : ℕ) : Type 0 where
  pub digits : all_digits (drop i l) ≡ true
  pub fits : v ≤ largest
  pub value : value_from v (drop i l) ≡ value_from 0 l

too_large : (v : ℕ) (l : List ℕ) → largest < v → None ≡ small (value_from v l)
unfolding small
too_large v l h = rw (lt-leb (value_from v l) largest (omega (arith, value_grows l v)))

module _ (l : List ℕ) (v i : ℕ) (r : Reading l v i) where
  pub all_read : length l ≤ i → Some v ≡ small (value_from 0 l)
  unfolding small value_from
  all_read e =
      let w : v ≡ value_from 0 l = rw (drop_of_length-le l e) at r.value in rw (sym w, le-leb v largest r.fits)

  module _ (h : i < length l) where
    here : drop i l ≡ get_or l i 0 ∷ drop (i + 1) l
    here = rw (add-one i) (drop-cons l i 0 h)

    parts : (is_digit (get_or l i 0) ≡ true) × (all_digits (drop (i + 1) l) ≡ true)
    unfolding all_digits
    parts = both (is_digit (get_or l i 0)) (all_digits (drop (i + 1) l)) (sym (ap all_digits here) ∙ r.digits)

    pub digit : (48 ≤ get_or l i 0) × (get_or l i 0 ≤ 57)
    digit = digit_range _ parts.0

    on : value_from (v * 10 + (get_or l i 0 - 48)) (drop (i + 1) l) ≡ value_from 0 l
    unfolding value_from
    on = sym (ap (value_from v) here) ∙ r.value

    pub turn : (w : ℕ) → w ≡ v * 10 + (get_or l i 0 - 48) → w ≤ largest → Reading l w (i + 1)
    turn w e k = record { digits = parts.1; fits = k; value = ap (λ (n : ℕ). value_from n (drop (i + 1) l)) e ∙ on }

    pub over : largest < v * 10 + (get_or l i 0 - 48) → None ≡ small (value_from 0 l)
    over g = too_large _ (drop (i + 1) l) g ∙ ap small on

-- ---- the digits in front

abbrev number : ℕ → ℕ → Number
number value size = record { value = value; size = size }

module _ (s l : List ℕ) (e : l ≡ front s) where
  pub all_front : all_digits l ≡ true
  all_front = rw e (cut s).all

  -- none, or a 0 before others
  pub refused : (length l ≡ 0) ⊎ ((1 < length l) × (get_or l 0 0 ≡ 48)) → None ≡ number_in_front s
  unfolding number_in_front number_in
  refused h = rw (sym e, all_front, bad l h)
    where
      bad : (l : List ℕ) → (length l ≡ 0) ⊎ ((1 < length l) × (get_or l 0 0 ≡ 48)) → no_leading_zero l ≡ false
      bad [] h = refl
      bad (b ∷ []) h = absurd (⊎_elim (λ z. omega (arith, z)) (λ k. omega (arith, k.0)) h)
      bad (b ∷ c ∷ l) h = ⊎_elim (λ z. absurd (omega (arith, z))) (λ k. rw (eq-eqb b 48 k.1)) h

  -- else what they stand for, where it is small enough
  abbrev pub Good : Type 0
  Good = (length l ≡ 1) ⊎ ((1 < length l) × (get_or l 0 0 ≡ 48 → ⊥))

  good : (l : List ℕ) → (length l ≡ 1) ⊎ ((1 < length l) × (get_or l 0 0 ≡ 48 → ⊥)) → no_leading_zero l ≡ true
  good [] h = absurd (⊎_elim (λ z. omega (arith, z)) (λ k. omega (arith, k.0)) h)
  good (b ∷ []) h = refl
  good (b ∷ c ∷ l) h = ⊎_elim (λ z. absurd (omega (arith, z))) (λ k. rw (ne_eqb b 48 k.1)) h

  pub given : Good → (v : ℕ) → Some v ≡ small (value_from 0 l) → Some (number v (length l)) ≡ number_in_front s
  unfolding number_in_front number_in small
  given h v q = rw (sym e, all_front, good l h) (by (leb (value_from 0 l) largest) refl q)
    where
      by : (t : Bool) → leb (value_from 0 l) largest ≡ t → Some v ≡ cond t (Some (value_from 0 l)) None
          → Some (number v (length l)) ≡ cond t (Some (number (value_from 0 l) (length l))) None
      by true t q = rw (same_Some _ _ q)
      by false t q = absurd (none-some v (sym q))

  pub too_great : Good → None ≡ small (value_from 0 l) → None ≡ number_in_front s
  unfolding number_in_front number_in small
  too_great h q = rw (sym e, all_front, good l h) (by (leb (value_from 0 l) largest) refl q)
    where
      by : (t : Bool) → leb (value_from 0 l) largest ≡ t → None ≡ cond t (Some (value_from 0 l)) None
          → None ≡ cond t (Some (number (value_from 0 l) (length l))) None
      by true t q = absurd (none-some _ q)
      by false t q = refl
