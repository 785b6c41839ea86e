-- A good box and the state that it carries: one from the other, and back. Assumes nothing.
use Prim.Native.Nat.{ℕ, ◌-◌}
use mathlib.Core.Bool.{true}
use mathlib.Core.Path.{◌≡◌, refl, ap, ◌∙◌}
use mathlib.Core.List.{List}
use lib.ListN.{length, replicate}
use lib.Seq.{take_at}
use Rattle.trace.specs.declared.Ring.{Ring}
use Rattle.trace.specs.Ring.{good_ring}
use Rattle.model.specs.declared.Profile.{Profile}
use Rattle.model.specs.Profiles.{good_profile}
use Rattle.model.specs.State.{State}
use Rattle.model.specs.Good.{good_state}
use Rattle.model.proofs.GoodStates.{state_facts}
use Rattle.partial.specs.declared.PartialFrame.{PartialFrame}
use Rattle.partial.specs.Partial.{frame_of}
use Rattle.partial.proofs.Carries.{frame_back, short, frame_unused}
use Rattle.record.specs.declared.Box.{Box}
use Rattle.record.specs.Box.{state_of, box_of, good_box}
use Rattle.record.proofs.Joins.{box_parts}
use Rattle.record.proofs.Facts.{box_facts}

-- the record of a state carries that state
pub carries : (p : Profile) (g : Ring) (s : State) → state_of (box_of p g s) ≡ s
unfolding state_of box_of frame_of
carries p g s =
    let bytes = s.partial.bytes in
    ap (λ (l : List ℕ). record { clock = s.clock; partial = record { bytes = l; size = s.partial.size }; core = s.core })
    (take_at bytes (replicate (25 - length bytes) 0) (length bytes) refl)

-- a good box is the record of the state that it carries
pub back : (b : Box) → length b.partial.bytes ≡ 25 → good_box b ≡ true → box_of b.profile b.ring (state_of b) ≡ b
unfolding box_of state_of
back b l g =
    ap (λ (q : PartialFrame). record { profile = b.profile; clock = b.clock; core = b.core; partial = q; ring = b.ring })
    (frame_back b.partial l (box_facts b g).unused)

-- the record of a good state is good
pub carrier_good : (p : Profile) (g : Ring) (s : State) → good_profile p ≡ true → good_ring g ≡ true → good_state p s ≡ true → good_box (box_of p g s) ≡ true
unfolding box_of
carrier_good p g s hp hg hs =
    let u = frame_unused s.partial (short s.core s.partial.size s.partial.bytes (state_facts hs).partial) in
    box_parts (box_of p g s) ∙ rw (hp, hg, u, carries p g s) hs
