-- The pulses in a tick's two places are exactly the pulses due. Assumes nothing.
use Prim.Native.Nat.{ℕ, zero, suc, ◌+◌, ◌-◌, ◌*◌, ◌≤◌, ◌<◌, max}
use mathlib.Core.Bool.{Bool, true, false, cond}
use mathlib.Core.Path.{◌≡◌, refl, ◌∙◌}
use mathlib.Core.List.{List, [], ◌++◌, append_assoc, append-nil}
use native.Mathlib.Omega.{arith}
use native.Mathlib.Nat.{sub-zero}
use borrow.Author.Tests.{leb-true, lt-ltb, le-ltb}
use Rattle.trace.specs.declared.Record.{Record}
use Rattle.model.specs.declared.Run.{Run}
use Rattle.model.specs.Below.{each_below}
use Rattle.model.specs.Channels.{many}
use Rattle.model.specs.Timing.{t2, keeps_modules}
use Rattle.model.specs.Slots.{slot, due, first_due}
use Rattle.model.specs.Ticks.{due_pulse, releases}
use Rattle.model.specs.Claims.{pulse_at}
use Rattle.model.proofs.Tests.{either_way}
use Rattle.model.proofs.Apart.{one_due}

-- what f gives at the n numbers from i on, joined
abbrev each_from : ℕ → ℕ → (ℕ → List Record) → List Record
each_from i zero f = []
each_from i (suc n) f = f i ++ each_from (suc i) n f

-- module A, then module B
module_by_module : (f : ℕ → List Record) → each_below 8 f ≡ each_from 0 4 f ++ each_from 4 4 f
module_by_module f = simp (append_assoc, append-nil)

module _ (clock : ℕ) (r : Run) where
  -- where none is due, none is released
  none_due : (i n : ℕ) → ((j : ℕ) → i ≤ j → j < i + n → due r j ≡ false) → each_from i n (due_pulse clock r) ≡ []
  none_due i zero h = refl
  none_due i (suc n) h = rw (h i (omega arith) (omega arith)) (none_due (suc i) n (λ j l m. h j (omega arith) (omega arith)))

  -- where two that are due are one, the first of them is all of them
  first_is_all : (i n : ℕ) → i + n ≤ 8
      → ((j k : ℕ) → i ≤ j → j < i + n → i ≤ k → k < i + n → due r j ≡ true → due r k ≡ true → j ≡ k)
      → each_from i n (due_pulse clock r) ≡ pulse_at clock r (first_due r i n)
  unfolding first_due
  first_is_all i zero l one = refl
  first_is_all i (suc n) l one =
      either_way (due r i)
      (λ e.
      let same : (j : ℕ) → suc i ≤ j → j < suc i + n → due r j ≡ true → i ≡ j =
      λ j a b. one i j (omega arith) (omega arith) (omega arith) (omega arith) e in
      let rest = none_due (suc i) n (λ j a b. either_way (due r j) (λ d. absurd (omega (arith, same j a b d))) (λ d. d)) in
      rw (e, rest, lt-ltb i 8 (omega arith)))
      (λ e. rw e (first_is_all (suc i) n (omega arith) (λ j k a b c d. one j k (omega arith) (omega arith) (omega arith) (omega arith))))

-- the slots of modules A and B
slots_a : (stim i : ℕ) → 0 ≤ i → i < 0 + 4 → slot stim i ≡ 15 * many stim 0 (i - 0) + 0
unfolding slot
slots_a stim i f l = rw (lt-ltb i 4 (omega arith), sub-zero) (omega arith)

slots_b : (stim i : ℕ) → 4 ≤ i → i < 4 + 4 → slot stim i ≡ 15 * many stim 4 (i - 4) + 6
unfolding slot
slots_b stim i f l = rw (le-ltb i 4 f)

-- modules within t2 have at most one pulse each
pub two_pulses : (clock : ℕ) (r : Run) → keeps_modules r.list ≡ true
    → releases clock r ≡ pulse_at clock r (first_due r 0 4) ++ pulse_at clock r (first_due r 4 4)
unfolding releases keeps_modules
two_pulses clock r e =
    let h = leb-true (15 * max (many r.list.stim 0 4) (many r.list.stim 4 4)) (t2 r.list.group) e in
    let a = first_is_all clock r 0 4 (omega arith) (one_due r 0 0 (slots_a r.list.stim) (omega arith)) in
    let b = first_is_all clock r 4 4 (omega arith) (one_due r 4 6 (slots_b r.list.stim) (omega arith)) in
    module_by_module (due_pulse clock r) ∙ rw (a, b)

-- a due channel is one of the n from i on
pub due_within : (r : Run) (i n : ℕ) → first_due r i n < 8 → (i ≤ first_due r i n) × (first_due r i n < i + n)
unfolding first_due
due_within r i zero h = absurd (omega arith)
due_within r i (suc n) h = on (due r i) (first_due r (suc i) n) (due_within r (suc i) n) h where
  on : (b : Bool) (k : ℕ) → (k < 8 → (suc i ≤ k) × (k < suc i + n)) → cond b i k < 8 → (i ≤ cond b i k) × (cond b i k < i + suc n)
  on true k f h = (omega arith, omega arith)
  on false k f h = let w = f h in (omega arith, omega arith)
