-- Demand 3: two fresh boxes of one device, same bytes and ticks, each with a proper ring, the second's profile nowhere looser. "Demand 3 is
-- therefore stated over boxes meeting demand 2": over all programs that do. The library's own histories stand beside them.
use Rattle.std.specs.Prelude.{ℕ, true, ◌≡◌}
use mathlib.Core.List.{List, [], ◌∷◌, ◌++◌, Memᴰ}
use Rattle.trace.specs.declared.Record.{Record}
use Rattle.model.specs.declared.Profile.{Profile}
use Rattle.model.specs.Profiles.{NowhereLooser}
use Rattle.model.specs.State.{fresh}
use Rattle.model.specs.Machine.{Call}
use Rattle.calls.specs.Making.{make_answer}
use Rattle.demands.specs.History.{History, at_first, Request, acts, calls, Spoken, spoken}
use Rattle.demands.specs.Program.{Program, Meets}
use Rattle.demands.specs.Stretch.{in_stretch}

-- what the first says to a call and what the second says, whose profile is q, behind the same calls
pub record Beside (q : Profile) (cs : List Call) (c : Call) (first second : Spoken) : Type 0 where
  -- each pulse of the second the first releases too, same clock, channel, width, current
  pub pulses : (u : Record) → Memᴰ u second.pulses → Memᴰ u first.pulses
  -- from the start, or from a call by which the second leaves the tripped state, until just before it next trips, all answers and pulses
  -- are equal
  pub equal : in_stretch q fresh true (cs ++ c ∷ []) ≡ true → first ≡ second

-- any two programs that meet demand 2, or one of them twice, each where a box is made; readouts may stand anywhere between
abbrev pub Demand3Holds : Type 0
Demand3Holds =
    (p q : Profile) → NowhereLooser q p → (x y : Program) → Meets x → Meets y
    → (d e : ℕ) → make_answer p d ≡ 0 → make_answer q e ≡ 0
    → (rs us : List Request) → acts rs ≡ acts us → (c : Call) → Beside q (acts us) c (x.says p d rs c) (y.says q e us c)

-- call by call, behind the calls `before`
pub data Along (q : Profile) : List Call → List Call → List Spoken → List Spoken → Type 0 where
  ended : {before : List Call} → Along q before [] [] []
  more : {before cs : List Call} {c : Call} {x y : Spoken} {xs ys : List Spoken}
      → Beside q before c x y → Along q (before ++ c ∷ []) cs xs ys → Along q before (c ∷ cs) (x ∷ xs) (y ∷ ys)

-- any two proper histories of the library's calls
abbrev pub HistoriesBeside : Type 0
HistoriesBeside =
    (p q : Profile) → NowhereLooser q p → (first : History p) (second : History q) → calls first.turns ≡ calls second.turns
    → Along q [] (calls second.turns) (spoken (at_first first) first.turns) (spoken (at_first second) second.turns)
