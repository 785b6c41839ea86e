-- Records are in range where their fields are, and rows of them together where each row is. Assumes nothing.
use Prim.Native.Nat.{ℕ, zero, suc, ◌+◌, ◌≤◌, ◌<◌}
use mathlib.Core.Bool.{Bool, true, false, cond, ◌||◌}
use mathlib.Core.Path.{◌≡◌, refl}
use mathlib.Core.List.{List, [], ◌∷◌, ◌++◌}
use native.Mathlib.Omega.{arith}
use lib.Dec.{leb, ltb, eqb}
use borrow.Author.Tests.{ltb-true, le-leb, ne_eqb}
use Rattle.commands.specs.Ranges.{within, good_pulse}
use Rattle.commands.proofs.Tests.{both}
use Rattle.trace.specs.declared.Record.{Record}
use Rattle.trace.specs.declared.Record.TheVariants.{Answer, Trip}
use Rattle.model.specs.Below.{each_below}
use Rattle.model.specs.Slots.{felt}
use Rattle.model.specs.Effects.{pulse}
use Rattle.model.specs.Ticks.{last_clock}
use Rattle.model.proofs.Tests.{◌and◌}
use Rattle.recorded.specs.Ranges.{good_ident, good_answer, good_cause, in_range, all_in_range}

-- ---- rows together

pub append_in : (xs ys : List Record) → all_in_range xs ≡ true → all_in_range ys ≡ true → all_in_range (xs ++ ys) ≡ true
unfolding all_in_range
append_in [] ys e f = f
append_in (x ∷ xs) ys e f = let p = both (in_range x) (all_in_range xs) e in p.0 and append_in xs ys p.1 f

pub each_in : (n : ℕ) (f : ℕ → List Record) → ((i : ℕ) → i < n → all_in_range (f i) ≡ true) → all_in_range (each_below n f) ≡ true
unfolding all_in_range
each_in zero f g = refl
each_in (suc n) f g = append_in (each_below n f) (f n) (each_in n f (λ i l. g i (omega arith))) (g n (omega arith))

-- ---- each kind, at a clock not past its end

module _ (clock : ℕ) (h : clock ≤ last_clock) where
  pub answer_before : (ident answer : ℕ) (xs : List Record) → good_ident ident ≡ true → good_answer answer ≡ true → all_in_range xs ≡ true
      → all_in_range (Answer clock ident answer ∷ xs) ≡ true
  unfolding all_in_range in_range
  answer_before ident answer xs i a later = (le-leb clock last_clock h and i and a) and later

  pub trip_alone : (cause : ℕ) → good_cause cause ≡ true → all_in_range (Trip clock cause ∷ []) ≡ true
  unfolding all_in_range in_range
  trip_alone cause c = (le-leb clock last_clock h and c) and refl

  -- good values of which none is zero
  felt_in : (i width current : ℕ) → i < 8 → good_pulse width current ≡ true → felt width current ≡ true
      → in_range (pulse clock i width current) ≡ true
  unfolding in_range felt
  felt_in i width current n g f =
      let some = both (ltb 0 width) (ltb 0 current) f in
      let good = both (eqb width 0 || within 10 width 500) (leb current 127) g in
      let wide : within 10 width 500 ≡ true = rw (ne_eqb width 0 (λ z. omega (arith, ltb-true 0 width some.0))) at good.0 in
      le-leb clock last_clock h and (le-leb 1 (i + 1) (omega arith) and le-leb (i + 1) 8 (omega arith)) and wide and (some.1 and good.1)

  -- a pulse that is released only where it is felt
  pub pulse_if : (b : Bool) (i width current : ℕ) → i < 8 → good_pulse width current ≡ true → (b ≡ true → felt width current ≡ true)
      → all_in_range (cond b (pulse clock i width current ∷ []) []) ≡ true
  unfolding all_in_range
  pulse_if true i width current n g f = felt_in i width current n g (f refl) and refl
  pulse_if false i width current n g f = refl
