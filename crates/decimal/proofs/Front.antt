-- Laws of a number in front of other bytes. Assumes nothing.
use Prim.Native.Nat.{ℕ, zero, suc, ◌+◌, ◌≤◌, ◌<◌, min}
use mathlib.Core.Bool.{Bool, true, false}
use mathlib.Core.Logic.{⊎_elim}
use mathlib.Core.Path.{◌≡◌, refl, sym, ap, ◌∙◌}
use mathlib.Core.List.{List, [], ◌∷◌, ◌++◌}
use mathlib.Core.Option.{Option as Maybe, none, some}
use Rattle.std.specs.Prelude.{Option, Some, None, position, unwrap_or, nat_lt, not, cond}
use lib.Seq.{take_all}
use Rattle.std.proofs.lemmas.Option.{none-some, same_Some}
use Rattle.std.proofs.lemmas.List.{length-take-le}
use native.Mathlib.Numerals.{one-add}
use native.Mathlib.Omega.{arith}
use borrow.Author.Tests.{le-leb, lt-leb, leb-true, ltb-false}
use lib.Dec.{leb}
use Rattle.std.specs.List.{position_or_len}
use Rattle.std.specs.Char.{is_ascii_digit}
use lib.ListN.{length, take, drop, length-append}
use Rattle.commands.proofs.Tests.{both}
use Rattle.commands.proofs.Order.{lt_or_ge}
use Rattle.decimal.specs.declared.Number.{Number}
use Rattle.decimal.specs.Decimal.{digits, is_digit, all_digits, number_in}
use Rattle.decimal.specs.Front.{front, largest, as_number, number_in_front}
use Rattle.decimal.proofs.Digits.{digits_all, ten_at_most}
use Rattle.decimal.proofs.Theorems.{reads_written, writes_read}

-- no digit in front
abbrev pub Stops : List ℕ → Type 0
Stops [] = Unit
Stops (b ∷ s) = is_digit b ≡ false

pub front_stops : (b : ℕ) (s : List ℕ) → is_digit b ≡ false → front (b ∷ s) ≡ []
unfolding front
front_stops b s e = rw e

pub front_goes : (b : ℕ) (s : List ℕ) → is_digit b ≡ true → front (b ∷ s) ≡ b ∷ front s
unfolding front
front_goes b s e = rw e

-- up to the first byte that is no digit
front_before : (s : List ℕ) → take (position_or_len (λ b. not (is_ascii_digit b)) s) s ≡ front s
unfolding front
front_before [] = refl
front_before (b ∷ s) = by (is_digit b) (front_before s)
  where
    by : (t : Bool) → take (position_or_len (λ b. not (is_ascii_digit b)) s) s ≡ front s
        → take (cond (not (not t)) (1 + position_or_len (λ b. not (is_ascii_digit b)) s) 0) (b ∷ s) ≡ cond t (b ∷ front s) []
    by true h = rw (one-add) (ap (λ (l : List ℕ). b ∷ l) h)
    by false h = refl

pub front_is : (s : List ℕ) (o : Option ℕ) (n : ℕ) → o ≡ position (λ b. not (is_ascii_digit b)) s → n ≡ unwrap_or o (length s) → take n s ≡ front s
front_is s o n e u = by (nat_lt (position_or_len (λ b. not (is_ascii_digit b)) s) (length s)) refl (u ∙ ap (λ (o : Option ℕ). unwrap_or o (length s)) e)
  where
    by : (t : Bool) → nat_lt (position_or_len (λ b. not (is_ascii_digit b)) s) (length s) ≡ t
        → n ≡ unwrap_or (cond t (Some (position_or_len (λ b. not (is_ascii_digit b)) s)) None) (length s) → take n s ≡ front s
    by true p e = rw e (front_before s)
    by false p e = rw e (take_all (length s) s (omega arith) ∙ sym (take_all _ s (ltb-false _ _ p)) ∙ front_before s)

front_all : (l rest : List ℕ) → all_digits l ≡ true → Stops rest → front (l ++ rest) ≡ l
unfolding front all_digits
front_all [] [] p s = refl
front_all [] (b ∷ rest) p s = rw s
front_all (b ∷ l) rest p s = let t = both (is_digit b) (all_digits l) p in rw (t.0, front_all l rest t.1 s)

-- the digits in front, and what follows them
pub record Cut (s l : List ℕ) : Type 0 where
  pub all : all_digits l ≡ true
  pub joined : s ≡ l ++ drop (length l) s

cut_more : (b : ℕ) (s : List ℕ) (d : Bool) → is_digit b ≡ d → Cut s (front s) → Cut (b ∷ s) (front (b ∷ s))
unfolding all_digits
cut_more b s true e c = rw (front_goes b s e) (record { all = rw e c.all; joined = ap (λ (l : List ℕ). b ∷ l) c.joined })
cut_more b s false e c = rw (front_stops b s e) (record { all = refl; joined = refl })

pub cut : (s : List ℕ) → Cut s (front s)
unfolding front all_digits
cut [] = record { all = refl; joined = refl }
cut (b ∷ s) = cut_more b s (is_digit b) refl (cut s)

pub front_within : (s : List ℕ) → length (front s) ≤ length s
front_within s = omega (arith, simp length-append at (ap length (cut s).joined))

-- ---- a number of 32 bits has ten digits at most, so the first eleven bytes tell it

front_take : (n : ℕ) (s : List ℕ) → front (take n s) ≡ take n (front s)
unfolding front
front_take zero s = refl
front_take (suc n) [] = refl
front_take (suc n) (b ∷ s) = by (is_digit b) (front_take n s)
  where
    by : (t : Bool) → front (take n s) ≡ take n (front s) → cond t (b ∷ front (take n s)) [] ≡ take (suc n) (cond t (b ∷ front s) [])
    by true h = ap (λ (l : List ℕ). b ∷ l) h
    by false h = refl

too_many : (t : List ℕ) (k : ℕ) → 10 < length t → as_number (number_in t) k ≡ None
too_many t k h = by (number_in t) refl
  where
    by : (o : Maybe ℕ) → number_in t ≡ o → as_number o k ≡ None
    by none i = refl
    by (some v) i =
        let d = ap length (writes_read t v i) in
        let g : largest < v = ⊎_elim (λ (l : v < 4294967296). absurd (omega (arith, ten_at_most v l))) (λ (l : 4294967296 ≤ v). omega arith) (lt_or_ge v 4294967296) in
        rw (lt-leb v largest g)

pub near : (s : List ℕ) (n : ℕ) → n ≡ min (length s) 11 → number_in_front (take n s) ≡ number_in_front s
unfolding number_in_front
near s n e = ⊎_elim more few (lt_or_ge n (length (front s)))
  where
    few : length (front s) ≤ n → as_number (number_in (front (take n s))) (length (front (take n s))) ≡ as_number (number_in (front s)) (length (front s))
    few h = rw (front_take n s, take_all n (front s) h)

    more : n < length (front s) → as_number (number_in (front (take n s))) (length (front (take n s))) ≡ as_number (number_in (front s)) (length (front s))
    more h =
        let w = front_within s in
        let l : length (take n (front s)) ≡ n = length-take-le n (front s) (omega arith) in
        rw (front_take n s) (too_many _ _ (omega (arith, l)) ∙ sym (too_many _ _ (omega arith)))

-- ---- a number that was written, before what is no digit

pub reads_in_front : (n : ℕ) (rest : List ℕ) → n ≤ largest → Stops rest → number_in_front (digits n ++ rest) ≡ Some (record { value = n; size = length (digits n) })
unfolding number_in_front
reads_in_front n rest h s = rw (front_all (digits n) rest (digits_all n) s, reads_written n, le-leb n largest h)

-- ---- a number that is read is one that was written, and what follows

pub record InFront (s : List ℕ) (n : Number) : Type 0 where
  pub small : n.value ≤ largest
  pub size : n.size ≡ length (digits n.value)
  pub joined : s ≡ digits n.value ++ drop n.size s

pub writes_in_front : (s : List ℕ) (n : Number) → number_in_front s ≡ Some n → InFront s n
unfolding number_in_front
writes_in_front s n e = by (number_in (front s)) refl e
  where
    fits : (v : ℕ) (b : Bool) → leb v largest ≡ b → number_in (front s) ≡ some v → cond b (Some (record { value = v; size = length (front s) })) None ≡ Some n → InFront s n
    fits v true l i e =
        let d = writes_read (front s) v i in
        rw (sym (same_Some _ _ e)) (record { small = leb-true v largest l; size = ap length (sym d); joined = (cut s).joined ∙ ap (λ (t : List ℕ). t ++ drop (length (front s)) s) (sym d) })
    fits v false l i e = absurd (none-some n e)

    by : (o : Maybe ℕ) → number_in (front s) ≡ o → as_number o (length (front s)) ≡ Some n → InFront s n
    by none i e = absurd (none-some n e)
    by (some v) i e = fits v (leb v largest) refl i e
