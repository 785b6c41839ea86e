-- The box record (document 01, "The machine"): the state of the machine that it carries, and when it is good.
use Rattle.std.specs.Prelude.{Bool, ◌∷◌}
use Rattle.trace.specs.declared.Ring.{Ring}
use Rattle.trace.specs.Ring.{good_ring}
use Rattle.model.specs.declared.Profile.{Profile}
use Rattle.model.specs.Profiles.{good_profile}
use Rattle.model.specs.State.{State}
use Rattle.model.specs.Good.{all_hold, good_tests}
use Rattle.partial.specs.Partial.{partial_of, frame_of, unused_zero}
use Rattle.record.specs.declared.Box.{Box}

-- the state that a record carries
unfoldable pub state_of : Box → State
state_of b = record { clock = b.clock; partial = partial_of b.partial; core = b.core }

-- the record that carries a state
unfoldable pub box_of : Profile → Ring → State → Box
box_of p g s = record { profile = p; clock = s.clock; core = s.core; partial = frame_of s.partial; ring = g }

-- "A box record is good if each number is in its range here": those of the profile, of the ring and of the bytes not in use, which are
-- zero, and then those of the state, with all else that the paragraph asks, in its order (`model/specs/Good`)
unfoldable pub good_box : Box → Bool
good_box b = all_hold (good_profile b.profile ∷ good_ring b.ring ∷ unused_zero b.partial ∷ good_tests b.profile (state_of b))
