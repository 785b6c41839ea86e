-- A call on any box record: refused, or taken by the machine. Assumes nothing.
use Prim.Native.Nat.{ℕ}
use mathlib.Core.Bool.{Bool, true, false, cond}
use mathlib.Core.Path.{◌≡◌, refl, sym, ◌∙◌}
use native.Mathlib.Omega.{arith}
use borrow.Author.Tests.{eq-eqb, ne_eqb}
use Rattle.model.specs.Machine.{Call, step}
use Rattle.record.specs.declared.Box.{Box}
use Rattle.record.specs.Box.{state_of, good_box}
use Rattle.outcome.specs.declared.Stepped.{Stepped}
use Rattle.outcome.specs.Step.{refused_step, carried, refusal, step_of}

-- only a good record is not refused
good_if : (good : Bool) (ring : ℕ) → 0 ≡ cond good ring 12 → good ≡ true
good_if true ring e = refl
good_if false ring e = absurd (omega arith)

module _ (b : Box) (ring : ℕ) where
  pub good_taken : 0 ≡ refusal b ring → good_box b ≡ true
  good_taken e = good_if (good_box b) ring e

  pub call_taken : (c : Call) {t : Stepped} → t ≡ carried b (step b.profile (state_of b) c) → 0 ≡ refusal b ring → t ≡ step_of b ring c
  unfolding step_of
  call_taken c h e = h ∙ rw (← e)

  -- any number that is refused with is told
  pub call_refused : (c : Call) {a : ℕ} {t : Stepped} → t ≡ refused_step a b → a ≡ refusal b ring → (a ≡ 0 → ⊥) → t ≡ step_of b ring c
  unfolding step_of
  call_refused c h e n = h ∙ rw (← e, ne_eqb _ 0 n)
