-- The ways that a call on any box record goes. Assumes nothing.
use Prim.Native.Nat.{ℕ}
use mathlib.Core.Bool.{Bool, true, ◌&&◌}
use mathlib.Core.Path.{◌≡◌, refl, sym}
use mathlib.Core.List.{List}
use lib.Dec.{eqb}
use borrow.Author.Tests.{eqb-true}
use Rattle.commands.proofs.Tests.{both, first_passes}
use Rattle.trace.specs.declared.Part.{Part}
use Rattle.trace.specs.Ring.{ready_tests, ready_answer}
use Rattle.model.specs.Machine.{Call}
use Rattle.model.proofs.Tests.{either_way}
use Rattle.record.specs.declared.Box.{Box}
use Rattle.record.specs.Box.{good_box}
use Rattle.outcome.specs.Claims.{stepped}
use Rattle.outcome.proofs.Calls.{good_taken}
use Rattle.calls.specs.Filed.{Answered}
use Rattle.calls.specs.Calls.{refusal_of, turned_away, step_filed, call_of}

module _ (b : Box) (buf : List ℕ) (at : Part) where
  -- a good box with its ring in its place is given the step, and any other is turned away
  pub call_ways : (P : Answered → Type 0) (c : Call)
      → (good_box b ≡ true → ready_answer buf at b.ring ≡ 0 → P (step_filed b buf at (stepped b c))) → P (turned_away b buf (refusal_of b buf at))
      → P (call_of b buf at c)
  unfolding call_of
  call_ways P c takes refuses =
      either_way (eqb (refusal_of b buf at) 0)
      (λ e.
      let z = eqb-true (refusal_of b buf at) 0 e in
      let g = good_taken b (ready_answer buf at b.ring) (sym z) in
      rw e (takes g (rw g at z)))
      (λ e. rw e refuses)

  -- what is true of 0, 12, 13 and 14 is true of the number with which it is turned away
  pub refusal_passes : (f : ℕ → Bool) → f 0 ≡ true → f 12 && (f 13 && (f 14 && true)) ≡ true → f (refusal_of b buf at) ≡ true
  unfolding ready_answer
  refusal_passes f z h =
      either_way (good_box b) (λ e. rw e (first_passes f (ready_tests buf at b.ring) z h)) (λ e. rw e (both (f 12) _ h).0)
