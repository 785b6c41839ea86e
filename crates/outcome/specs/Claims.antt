-- What is promised of a call on a box record, as statements: nothing of the machine's step is lost by value, and a good box stays
-- good. Each is proved in `proofs/Theorems`.
use Rattle.std.specs.Prelude.{ℕ, true, cond, ◌≡◌, List, [], ◌∷◌, ◌++◌, eqb}
use Rattle.trace.specs.declared.Record.{Record}
use Rattle.trace.specs.declared.Record.TheVariants.{Answer, Pulse, Trip}
use Rattle.model.specs.Arrival.{Result}
use Rattle.model.specs.Machine.{Call, step}
use Rattle.record.specs.declared.Box.{Box}
use Rattle.record.specs.Box.{state_of, good_box}
use Rattle.said.specs.declared.Released.{Released}
use Rattle.said.specs.declared.Said.{Said}
use Rattle.said.specs.declared.Records.{Records}
use Rattle.said.specs.declared.Records.TheVariants.{Empty, One, Two}
use Rattle.said.specs.Said.{pulse_record}
use Rattle.outcome.specs.Step.{refusal, step_of}

-- the records that come back, as a row
abbrev pub row : Records → List Record
row Empty = []
row (One x) = x ∷ []
row (Two x y) = x ∷ y ∷ []

-- the pulses among records
unfoldable pub pulses_in : List Record → List Record
pulses_in [] = []
pulses_in (Answer clock k answer ∷ xs) = pulses_in xs
pulses_in (Pulse clock channel width current ∷ xs) = Pulse clock channel width current ∷ pulses_in xs
pulses_in (Trip clock cause ∷ xs) = pulses_in xs

-- the pulses in the two places, A before B
abbrev pub in_place : Released → List Record
in_place x = cond (eqb x.channel 0) [] (pulse_record x ∷ [])

abbrev pub places : Said → List Record
places s = in_place s.a ++ in_place s.b

abbrev pub stepped : Box → Call → Result
stepped b c = step b.profile (state_of b) c

-- a call that is not refused gives back every record of the step, in its places exactly the step's pulses, A before B, and leaves the
-- record that carries the step's state
pub record Given (b : Box) (ring : ℕ) (c : Call) : Type 0 where
  pub records : row (step_of b ring c).records ≡ (stepped b c).records
  pub pulses : places (step_of b ring c).said ≡ pulses_in (stepped b c).records
  pub state : state_of (step_of b ring c).next ≡ (stepped b c).state

abbrev pub NoneLost : Type 0
NoneLost = (b : Box) (ring : ℕ) (c : Call) → refusal b ring ≡ 0 → Given b ring c

-- a call leaves a good box good
abbrev pub StaysGood : Type 0
StaysGood = (b : Box) (ring : ℕ) (c : Call) → good_box b ≡ true → good_box (step_of b ring c).next ≡ true
