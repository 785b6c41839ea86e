-- A history: a fresh box, and the turns that a user takes with it. It is proper if each call gets the box as its last call left it, and,
-- in any buffer at any offset, the part of the box's capacity holding what that call left (document 01, "The ring").
use Rattle.std.specs.Prelude.{ℕ, ◌≡◌, List, [], ◌∷◌}
use Rattle.trace.specs.declared.Part.{Part}
use Rattle.trace.specs.declared.Record.{Record}
use Rattle.trace.specs.Ring.{part}
use Rattle.trace.specs.Proper.{Lent}
use Rattle.model.specs.declared.Profile.{Profile}
use Rattle.model.specs.Machine.{Call}
use Rattle.record.specs.declared.Box.{Box}
use Rattle.said.specs.declared.Said.{Said}
use Rattle.outcome.specs.Claims.{places}
use Rattle.calls.specs.Making.{make_of}
use Rattle.calls.specs.Filed.{Answered}
use Rattle.calls.specs.Calls.{call_of}

-- a byte or a tick, or a readout to an output; behind it the buffer that is lent, and where the ring's part lies in it
pub data Turn : Type 0 where
  call : Call → List ℕ → Part → Turn
  readout : List ℕ → List ℕ → Part → Turn

-- what is kept from one turn to the next: the box, and the bytes of its ring's part
pub record Kept : Type 0 where
  pub box : Box
  pub bytes : List ℕ

-- as a turn leaves them; a readout leaves both
unfoldable pub next : Kept → Turn → Kept
next h (call c buf at) =
    let r : Answered = call_of h.box buf at c in record { box = r.called.next; bytes = part r.buf at }
next h (readout out buf at) = h

unfoldable pub last : Kept → List Turn → Kept
last h [] = h
last h (t ∷ ts) = last (next h t) ts

-- inside the buffer lies the part of the box's capacity, holding those bytes
abbrev pub LentTo : Kept → List ℕ → Part → Type 0
LentTo h buf at = Lent buf at (record { ring = h.box.ring; bytes = h.bytes })

abbrev pub LentWith : Kept → Turn → Type 0
LentWith h (call c buf at) = LentTo h buf at
LentWith h (readout out buf at) = LentTo h buf at

unfoldable pub Proper : Kept → List Turn → Type 0
Proper h [] = Unit
Proper h (t ∷ ts) = LentWith h t × Proper (next h t) ts

-- a box just made, whatever its part holds, and proper turns
abbrev pub just_made : Profile → ℕ → List ℕ → Kept
just_made p capacity bytes = record { box = (make_of p capacity).made; bytes = bytes }

pub record History (p : Profile) : Type 0 where
  pub capacity : ℕ
  pub bytes : List ℕ
  pub turns : List Turn
  pub taken : (make_of p capacity).answer ≡ 0
  pub proper : Proper (just_made p capacity bytes) turns

abbrev pub at_first : {p : Profile} → History p → Kept
at_first {p} h = just_made p h.capacity h.bytes

-- what a turn asks of the box, wherever its ring lies: to act on a byte or a tick, or to show the ring to an output
pub data Request : Type 0 where
  act : Call → Request
  show : List ℕ → Request

abbrev pub requests : List Turn → List Request
requests [] = []
requests (call c buf at ∷ ts) = act c ∷ requests ts
requests (readout out buf at ∷ ts) = show out ∷ requests ts

-- the bytes and ticks among requests, and those of the turns
abbrev pub acts : List Request → List Call
acts [] = []
acts (act c ∷ rs) = c ∷ acts rs
acts (show out ∷ rs) = acts rs

abbrev pub calls : List Turn → List Call
calls ts = acts (requests ts)

-- what a call says: its answer, its reply, and its pulses, A before B
pub record Spoken : Type 0 where
  pub answer : ℕ
  pub reply : ℕ
  pub pulses : List Record

abbrev pub spoken_by : Said → Spoken
spoken_by s = record { answer = s.answer; reply = s.reply; pulses = places s }

-- what the bytes and ticks of the turns say
unfoldable pub spoken : Kept → List Turn → List Spoken
spoken h [] = []
spoken h (call c buf at ∷ ts) = spoken_by (call_of h.box buf at c).called.said ∷ spoken (next h (call c buf at)) ts
spoken h (readout out buf at ∷ ts) = spoken h ts
