-- Document 01, "The machine": "a trip keeps holds and the partial frame."
use Rattle.std.specs.Prelude.{ℕ, ◌-◌, true, false, ◌≡◌, List, length}
use Rattle.trace.specs.declared.Part.{Part}
use Rattle.model.specs.State.{is_tripped, no_frame}
use Rattle.model.specs.Machine.{Call, Call.byte, Call.tick}
use Rattle.partial.specs.Partial.{partial_of}
use Rattle.record.specs.declared.Box.{Box}
use Rattle.calls.specs.Calls.{call_of}

-- the box is not tripped before the call, and is behind it
abbrev pub Trips : Box → List ℕ → Part → Call → Type 0
Trips b buf at c = (is_tripped b.core ≡ false) × (is_tripped (call_of b buf at c).called.next.core ≡ true)

-- a tick that trips: the partial frame is as it was, and the holds are as every tick leaves them, fallen by one, not below 0
pub record KeptByTick (b d : Box) : Type 0 where
  pub partial : d.partial ≡ b.partial
  pub holda : d.core.holda ≡ b.core.holda - 1
  pub holdb : d.core.holdb ≡ b.core.holdb - 1

-- a command that is answered 9: the box is tripped, and the holds are as they were; its own frame is finished, so that no frame is open
pub record KeptAt9 (b d : Box) : Type 0 where
  pub down : is_tripped d.core ≡ true
  pub holda : d.core.holda ≡ b.core.holda
  pub holdb : d.core.holdb ≡ b.core.holdb
  pub frame_is_gone : partial_of d.partial ≡ no_frame

-- a box trips by a tick, or with 9
pub record TripKeeps (b : Box) (buf : List ℕ) (at : Part) : Type 0 where
  pub by_tick : Trips b buf at tick → KeptByTick b (call_of b buf at tick).called.next
  pub by_byte : (n : ℕ) → Trips b buf at (byte n) → (call_of b buf at (byte n)).called.said.answer ≡ 9
  pub at_9 : (n : ℕ) → (call_of b buf at (byte n)).called.said.answer ≡ 9 → KeptAt9 b (call_of b buf at (byte n)).called.next

-- a box record is as the code's types hold it: its partial frame has 25 bytes
abbrev pub EachTripKeeps : Type 0
EachTripKeeps = (b : Box) (buf : List ℕ) (at : Part) → length b.partial.bytes ≡ 25 → TripKeeps b buf at
