-- Laws of a number's digits: how many there are, and that each is one. Assumes nothing.
use Prim.Native.Nat.{ℕ, zero, suc, ◌+◌, ◌/◌, ◌%◌, ◌*◌, ◌^◌, ◌≤◌, ◌<◌}
use mathlib.Core.Bool.{true}
use mathlib.Core.Logic.{⊎_elim}
use mathlib.Core.Path.{◌≡◌, sym, ap, subst, ◌∙◌}
use mathlib.Core.List.{List, [], ◌∷◌, ◌++◌, append_assoc}
use native.Mathlib.Omega.{arith, pow_step}
use borrow.Author.Tests.{lt-ltb, le-ltb, le-leb, leb-true}
use lib.Dec.{leb}
use Rattle.std.specs.Prelude.{Option, Some, None, IfNone, IfSome, unwrap_or}
use lib.ListN.{length, drop, set, length-append, length-set}
use Rattle.std.proofs.lemmas.List.{drop-set}
use native.Mathlib.Numerals.{add-one}
use Rattle.commands.proofs.Tests.{both}
use Rattle.commands.proofs.Order.{lt_or_ge}
use Rattle.decimal.specs.Decimal.{digit, digits_within, digits, is_digit, all_digits}

-- ---- the digits of a number, whatever the fuel

fuel : (k m n : ℕ) → n < k → n < m → digits_within k n ≡ digits_within m n
unfolding digits_within
fuel zero m n h g = absurd (omega arith)
fuel (suc k) zero n h g = absurd (omega arith)
fuel (suc k) (suc m) n h g =
    ⊎_elim
    (λ (l : n < 10). rw (lt-ltb n 10 l))
    (λ (l : 10 ≤ n). rw (le-ltb n 10 l, fuel k m (n / 10) (omega arith) (omega arith)))
    (lt_or_ge n 10)

pub digits_one : (n : ℕ) → n < 10 → digits n ≡ digit n ∷ []
unfolding digits digits_within
digits_one n h = rw (lt-ltb n 10 h)

pub digits_more : (n : ℕ) → 10 ≤ n → digits n ≡ digits (n / 10) ++ digit (n % 10) ∷ []
unfolding digits digits_within
digits_more n h = rw (le-ltb n 10 h, fuel n (suc (n / 10)) (n / 10) (omega arith) (omega arith))

-- what holds of one digit, and of a number with one digit more, holds of every number
pub by_digits : (P : ℕ → Type 0) → ((n : ℕ) → n < 10 → P n) → ((n : ℕ) → 10 ≤ n → P (n / 10) → P n) → (n : ℕ) → P n
by_digits P one more n = go (suc n) n (omega arith)
  where
    go : (k n : ℕ) → n < k → P n
    go zero n h = absurd (omega arith)
    go (suc k) n h = ⊎_elim (λ (l : n < 10). one n l) (λ (l : 10 ≤ n). more n l (go k (n / 10) (omega arith))) (lt_or_ge n 10)

-- ---- how many

pub digits_some : (n : ℕ) → 0 < length (digits n)
digits_some =
    by_digits (λ n. 0 < length (digits n)) (λ n h. rw (digits_one n h) (omega arith)) (λ n h p. rw (digits_more n h, length-append) (omega arith))

-- a number below 10 ^ k has at most k digits, and one from 10 ^ k on has more
at_most : (k n : ℕ) → ((k : ℕ) → n / 10 < 10 ^ suc k → length (digits (n / 10)) ≤ suc k) → n < 10 ^ suc k → 10 ≤ n → length (digits n) ≤ suc k
at_most zero n shorter h l = absurd (omega arith)
at_most (suc k) n shorter h l =
    rw (digits_more n l, length-append) (let i = shorter k (omega (arith, pow_step 10 (suc k))) in omega arith)

pub digits_at_most : (n k : ℕ) → n < 10 ^ suc k → length (digits n) ≤ suc k
digits_at_most =
    by_digits (λ n. (k : ℕ) → n < 10 ^ suc k → length (digits n) ≤ suc k)
    (λ n l k h. rw (digits_one n l) (omega arith))
    (λ n l shorter k h. at_most k n shorter h l)

more_than : (k n : ℕ) → ((k : ℕ) → 10 ^ k ≤ n / 10 → k < length (digits (n / 10))) → 10 ^ k ≤ n → 10 ≤ n → k < length (digits n)
more_than zero n shorter h l = digits_some n
more_than (suc k) n shorter h l =
    rw (digits_more n l, length-append) (let i = shorter k (omega (arith, pow_step 10 k)) in omega arith)

few : (k n : ℕ) → 10 ^ k ≤ n → n < 10 → k < length (digits n)
few zero n h l = digits_some n
few (suc k) n h l = absurd (omega (arith, pow_step 10 k, pos k))
  where
    pos : (k : ℕ) → 0 < 10 ^ k
    pos zero = omega arith
    pos (suc k) = omega (arith, pow_step 10 k, pos k)

digits_more_than : (n k : ℕ) → 10 ^ k ≤ n → k < length (digits n)
digits_more_than =
    by_digits (λ n. (k : ℕ) → 10 ^ k ≤ n → k < length (digits n)) (λ n l k h. few k n h l) (λ n l shorter k h. more_than k n shorter h l)

-- so it is known from the powers of ten between which it lies
pub digits_count : (n k : ℕ) → 10 ^ k ≤ n → n < 10 ^ suc k → suc k ≡ length (digits n)
digits_count n k h l = omega (arith, digits_more_than n k h, digits_at_most n k l)

-- ten where it is of 32 bits
pub ten_at_most : (n : ℕ) → n < 4294967296 → length (digits n) ≤ 10
ten_at_most n h = digits_at_most n 9 (omega arith)

-- as the library's logarithm tells them
pub digits_log : (n : ℕ) (o : Option ℕ) → IfNone o (n ≡ 0) → IfSome o (λ k. 10 ^ k ≤ n) → IfSome o (λ k. n < 10 * 10 ^ k) → unwrap_or o 0 + 1 ≡ length (digits n)
digits_log n None z a b = sym (ap length (digits_one n (omega (arith, z))))
digits_log n (Some k) z a b = let e : k + 1 ≡ suc k = omega arith in e ∙ digits_count n k a (rw (pow_step 10 k) b)

-- ---- each is a digit

pub digit_range : (b : ℕ) → is_digit b ≡ true → (48 ≤ b) × (b ≤ 57)
digit_range b e = let p = both (leb 48 b) (leb b 57) e in (leb-true 48 b p.0, leb-true b 57 p.1)

digit_is : (d : ℕ) → d < 10 → is_digit (digit d) ≡ true
digit_is d h = rw (le-leb 48 (48 + d) (omega arith), le-leb (48 + d) 57 (omega arith))

all_append : (l m : List ℕ) → all_digits l ≡ true → all_digits m ≡ true → all_digits (l ++ m) ≡ true
unfolding all_digits
all_append [] m p q = q
all_append (b ∷ l) m p q = let r = both (is_digit b) (all_digits l) p in rw r.0 (all_append l m r.1 q)

one_digit : (d : ℕ) → d < 10 → all_digits (digit d ∷ []) ≡ true
unfolding all_digits
one_digit d h = rw (digit_is d h)

pub digits_all : (n : ℕ) → all_digits (digits n) ≡ true
digits_all =
    by_digits (λ n. all_digits (digits n) ≡ true)
    (λ n h. rw (digits_one n h) (one_digit n h))
    (λ n h p. rw (digits_more n h) (all_append (digits (n / 10)) _ p (one_digit (n % 10) (omega arith))))

-- ---- put from the last to the first

-- the digits of what is left come before place `to`, and what stands from there on makes all of them
pub record Putting (n left to : ℕ) (out : List ℕ) : Type 0 where
  pub count : 0 < to → length (digits left) ≡ to
  pub room : to ≤ length out
  pub joined : 0 < to → digits left ++ drop to out ≡ digits n
  pub done : to ≡ 0 → out ≡ digits n

pub put_turn : (n left k to : ℕ) (out : List ℕ) → k ≡ suc to → Putting n left k out → Putting n (left / 10) to (set out to (digit (left % 10)))
put_turn n left k to out e q = ⊎_elim last other (lt_or_ge left 10)
  where
    p : Putting n left (suc to) out
    p = subst (λ (k : ℕ). Putting n left k out) e q

    -- the digit before those that stand there
    here : (l : List ℕ) → digits left ≡ l ++ digit (left % 10) ∷ [] → l ++ drop to (set out to (digit (left % 10))) ≡ digits n
    here l e =
        let r : to < length out = omega (arith, p.room) in
        rw (drop-set out to (digit (left % 10)) r, add-one to)
        (sym (append_assoc l (digit (left % 10) ∷ []) (drop (suc to) out)) ∙ ap (λ (l : List ℕ). l ++ drop (suc to) out) (sym e) ∙ p.joined (omega arith))

    last : left < 10 → Putting n (left / 10) to (set out to (digit (left % 10)))
    last h =
        let o = digits_one left h in
        let z : to ≡ 0 = omega (arith, ap length o, p.count (omega arith)) in
        let m : left % 10 ≡ left = omega arith in
        record {
          count = λ k. absurd (omega arith);
          room = rw length-set (omega (arith, p.room));
          joined = λ k. absurd (omega arith);
          done = λ k. ap (λ (i : ℕ). drop i (set out to (digit (left % 10)))) (sym z) ∙ here [] (rw m o);
        }

    other : 10 ≤ left → Putting n (left / 10) to (set out to (digit (left % 10)))
    other h =
        let o = digits_more left h in
        let k : length (digits (left / 10)) ≡ to = omega (arith, simp length-append at (ap length o), p.count (omega arith)) in
        record {
          count = λ _. k;
          room = rw length-set (omega (arith, p.room));
          joined = λ _. here (digits (left / 10)) o;
          done = λ z. absurd (omega (arith, k, z, digits_some (left / 10)));
        }
