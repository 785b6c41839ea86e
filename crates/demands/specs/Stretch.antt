-- Demand 3: "from the start, or from a call by which the second leaves the tripped state, until just before it next trips".
use Rattle.std.specs.Prelude.{Bool, true, false, List, [], ◌∷◌}
use Rattle.model.specs.declared.Profile.{Profile}
use Rattle.model.specs.State.{State, is_tripped}
use Rattle.model.specs.Machine.{Call, step}

-- whether a call is in such a stretch: by whether the box is tripped before it, tripped behind it, and the call before it was in one
abbrev pub goes_on : Bool → Bool → Bool → Bool
-- the call trips the box
goes_on false true on = false
-- by it the box leaves the tripped state
goes_on true false on = true
goes_on false false on = on
goes_on true true on = on

-- whether the last of some calls is; `on`: whether a stretch has begun before them
unfoldable pub in_stretch : Profile → State → Bool → List Call → Bool
in_stretch p s on [] = on
in_stretch p s on (c ∷ cs) = in_stretch p (step p s c).state (goes_on (is_tripped s.core) (is_tripped (step p s c).state.core) on) cs
