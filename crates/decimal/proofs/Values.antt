-- Laws of the number that digits stand for. Assumes nothing.
use Prim.Native.Nat.{ℕ, zero, suc, ◌+◌, ◌-◌, ◌*◌, ◌/◌, ◌%◌, ◌≤◌, ◌<◌}
use mathlib.Core.Bool.{true, false≢true}
use mathlib.Core.Logic.{⊎_elim}
use mathlib.Core.Path.{◌≡◌, refl, sym, ap, ◌∙◌}
use mathlib.Core.List.{List, [], ◌∷◌, ◌++◌, append_assoc, append-nil}
use native.Mathlib.Omega.{arith}
use borrow.Author.Tests.{ne_eqb, eqb-false, not-true}
use Rattle.commands.proofs.Tests.{both}
use Rattle.commands.proofs.Order.{lt_or_ge}
use Rattle.decimal.specs.Decimal.{digits, is_digit, all_digits, no_leading_zero, value_from}
use Rattle.decimal.proofs.Digits.{digits_one, digits_more, by_digits, digit_range}

value_append : (a : ℕ) (l m : List ℕ) → value_from a (l ++ m) ≡ value_from (value_from a l) m
unfolding value_from
value_append a [] m = refl
value_append a (b ∷ l) m = value_append (a * 10 + (b - 48)) l m

pub value_grows : (l : List ℕ) (a : ℕ) → a ≤ value_from a l
unfolding value_from
value_grows [] a = omega arith
value_grows (b ∷ l) a = omega (arith, value_grows l (a * 10 + (b - 48)))

pub value_digits : (n : ℕ) → value_from 0 (digits n) ≡ n
unfolding value_from
value_digits =
    by_digits (λ n. value_from 0 (digits n) ≡ n)
    (λ n h. rw (digits_one n h) (omega arith))
    (λ n h p. rw (digits_more n h, value_append 0 (digits (n / 10)) _, p) (omega arith))

-- a number above 0 does not begin with 0
abbrev Leads : List ℕ → Type 0
Leads [] = ⊥
Leads (b ∷ l) = b ≡ 48 → ⊥

leads_append : (l m : List ℕ) → Leads l → Leads (l ++ m)
leads_append [] m p = absurd p
leads_append (b ∷ l) m p = p

leads_not_zero : (l : List ℕ) → Leads l → no_leading_zero l ≡ true
leads_not_zero [] p = absurd p
leads_not_zero (b ∷ []) p = refl
leads_not_zero (b ∷ c ∷ l) p = rw (ne_eqb b 48 p)

digits_lead : (n : ℕ) → 0 < n → Leads (digits n)
digits_lead =
    by_digits (λ n. 0 < n → Leads (digits n))
    (λ n h o. rw (digits_one n h) (λ e. omega arith))
    (λ n h p o. rw (digits_more n h) (leads_append (digits (n / 10)) _ (p (omega arith))))

pub digits_no_zero : (n : ℕ) → no_leading_zero (digits n) ≡ true
digits_no_zero zero = rw (digits_one 0 (omega arith))
digits_no_zero (suc n) = leads_not_zero (digits (suc n)) (digits_lead (suc n) (omega arith))

-- digits behind a number above 0 are those of the number that they all stand for
on : (l : List ℕ) (a : ℕ) → all_digits l ≡ true → 0 < a → digits (value_from a l) ≡ digits a ++ l
unfolding value_from all_digits
on [] a p h = sym (append-nil (digits a))
on (b ∷ l) a p h =
    let t = both (is_digit b) (all_digits l) p in
    let r = digit_range b t.0 in
    let v : ℕ = a * 10 + (b - 48) in
    let q : v / 10 ≡ a = omega arith in
    let m : 48 + v % 10 ≡ b = omega arith in
    on l v t.1 (omega arith) ∙ rw (digits_more v (omega arith), q, m, append_assoc)

pub digits_value : (l : List ℕ) → all_digits l ≡ true → no_leading_zero l ≡ true → digits (value_from 0 l) ≡ l
unfolding value_from all_digits
digits_value [] p e = absurd (false≢true e)
digits_value (b ∷ []) p e =
    let r = digit_range b (both (is_digit b) true p).0 in digits_one _ (omega arith) ∙ ap (λ (x : ℕ). x ∷ []) (omega arith)
digits_value (b ∷ c ∷ l) p e =
    let t = both (is_digit b) (all_digits (c ∷ l)) p in
    let r = digit_range b t.0 in
    let z = eqb-false b 48 (not-true _ e) in
    let n : 0 < b - 48 = ⊎_elim (λ (h : b < 49). absurd (z (omega arith))) (λ (h : 49 ≤ b). omega arith) (lt_or_ge b 49) in
    let w : 0 * 10 + (b - 48) ≡ b - 48 = omega arith in
    ap (λ (x : ℕ). digits (value_from x (c ∷ l))) w
    ∙ on (c ∷ l) (b - 48) t.1 n
    ∙ rw (digits_one (b - 48) (omega arith)) (ap (λ (x : ℕ). x ∷ c ∷ l) (omega arith))
