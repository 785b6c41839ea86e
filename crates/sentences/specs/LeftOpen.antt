-- Document 01, "Bytes": "Update's length is fixed when its first byte arrives and kept in the box, so an Update left open by a watchdog
-- trip still finishes, with 3 or 10."
use Rattle.std.specs.Prelude.{ℕ, zero, suc, ◌-◌, ◌<◌, Bool, true, false, not, ◌≡◌, List, [], ◌∷◌, length}
use Rattle.bits.specs.High.{high}
use Rattle.commands.specs.Answers.{is_one_of}
use Rattle.frames.specs.Layout.{ident_in}
use Rattle.model.specs.declared.Profile.{Profile}
use Rattle.model.specs.State.{State, is_tripped}
use Rattle.model.specs.Machine.{Call, Call.byte, Call.tick, step}
use Rattle.model.specs.Good.{good_state}

-- an Update is open, and so many of its bytes are to come
abbrev pub UpdateOpen : State → Type 0
UpdateOpen s = ident_in s.partial.bytes ≡ 1

abbrev pub to_come : State → ℕ
to_come s = s.partial.size - length s.partial.bytes

-- what follows: low bytes and ticks, in any order
abbrev pub low_or_tick : Call → Bool
low_or_tick (byte n) = not (high n)
low_or_tick tick = true

abbrev pub LowOrTicks : List Call → Type 0
LowOrTicks [] = Unit
LowOrTicks (c ∷ cs) = (low_or_tick c ≡ true) × LowOrTicks cs

-- what a call is answered while so many bytes are to come: the Update's last byte 3 or 10, those before it 1; those behind it are strays;
-- a tick 0, or 15 at the clock's end
abbrev pub finishing : Call → ℕ → List ℕ
finishing tick left = 0 ∷ 15 ∷ []
finishing (byte n) zero = 2 ∷ []
finishing (byte n) (suc zero) = 3 ∷ 10 ∷ []
finishing (byte n) (suc (suc left)) = 1 ∷ []

-- how many are to come behind it
abbrev pub less_by : Call → ℕ → ℕ
less_by tick left = left
less_by (byte n) zero = zero
less_by (byte n) (suc left) = left

-- call after call, and the box is tripped all the while
unfoldable pub Finishes : Profile → State → ℕ → List Call → Type 0
Finishes p s left [] = is_tripped s.core ≡ true
Finishes p s left (c ∷ cs) =
    (is_tripped s.core ≡ true)
    × (is_one_of (finishing c left) (step p s c).answer ≡ true)
    × Finishes p (step p s c).state (less_by c left) cs

-- a tripped box finishes the Update that is open
abbrev pub FinishesTripped : Type 0
FinishesTripped =
    (p : Profile) (s : State) → good_state p s ≡ true → is_tripped s.core ≡ true → UpdateOpen s
    → (0 < to_come s) × ((cs : List Call) → LowOrTicks cs → Finishes p s (to_come s) cs)

-- a tick that trips the box leaves the Update open, with its bytes and its kept length, and the box finishes it
pub record LeftOpen (p : Profile) (s : State) : Type 0 where
  pub kept_open : (step p s tick).state.partial ≡ s.partial
  pub some_left : 0 < to_come s
  pub finishes : (cs : List Call) → LowOrTicks cs → Finishes p (step p s tick).state (to_come s) cs

abbrev pub StillFinishes : Type 0
StillFinishes =
    (p : Profile) (s : State) → good_state p s ≡ true → UpdateOpen s
    → is_tripped s.core ≡ false → is_tripped (step p s tick).state.core ≡ true → LeftOpen p s
