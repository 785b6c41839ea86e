-- Document 01, "Numbers the box answers": "'Frame dropped': nothing but the partial frame, the watchdog count and the ring changes."
use Rattle.std.specs.Prelude.{ℕ, true, ◌≡◌, List, [], ◌∷◌, get_or}
use Rattle.commands.specs.Answers.{is_one_of}
use Rattle.trace.specs.declared.Part.{Part}
use Rattle.trace.specs.Claims.{Outside}
use Rattle.model.specs.State.{no_frame}
use Rattle.model.specs.Machine.{Call}
use Rattle.partial.specs.Partial.{partial_of}
use Rattle.record.specs.declared.Box.{Box}
use Rattle.outcome.specs.Claims.{places}
use Rattle.calls.specs.Filed.{Answered}
use Rattle.calls.specs.Calls.{call_of}

-- the answers for which the table says "frame dropped"
abbrev pub dropping : List ℕ
dropping = 3 ∷ 4 ∷ 5 ∷ 6 ∷ 7 ∷ 8 ∷ 10 ∷ []

-- a box and the next one: they differ in no more than the partial frame, the watchdog count and the ring, of which the capacity stays
pub record SameBut (b d : Box) : Type 0 where
  pub profile : d.profile ≡ b.profile
  pub clock : d.clock ≡ b.clock
  pub holda : d.core.holda ≡ b.core.holda
  pub holdb : d.core.holdb ≡ b.core.holdb
  pub state : d.core.state ≡ b.core.state
  pub list : d.core.run.list ≡ b.core.run.list
  pub settings : d.core.run.settings ≡ b.core.run.settings
  pub waits : d.core.run.waits ≡ b.core.run.waits
  pub waiting : d.core.run.waiting ≡ b.core.run.waiting
  pub position : d.core.run.position ≡ b.core.run.position
  pub cycle : d.core.run.cycle ≡ b.core.run.cycle
  pub capacity : d.ring.capacity ≡ b.ring.capacity

-- besides, no frame is open, no pulse is released, and of the buffer the ring's part alone is written
pub record Dropped (b : Box) (buf : List ℕ) (at : Part) (r : Answered) : Type 0 where
  pub unchanged : SameBut b r.called.next
  pub frame_is_gone : partial_of r.called.next.partial ≡ no_frame
  pub says_no_pulse : places r.called.said ≡ []
  pub elsewhere : (i : ℕ) → Outside at i → get_or r.buf i 0 ≡ get_or buf i 0

abbrev pub DropsFrame : Type 0
DropsFrame =
    (b : Box) (buf : List ℕ) (at : Part) (c : Call) → is_one_of dropping (call_of b buf at c).called.said.answer ≡ true
    → Dropped b buf at (call_of b buf at c)
