-- Demand 2 on a box: every answer, pulse and trace byte is the one that document 01's machine gives for the calls so far. Its sentence on
-- frames is in `RoundTrips`.
use Rattle.std.specs.Prelude.{ℕ, false, ◌≡◌, List, [], ◌∷◌, map, length}
use Rattle.commands.specs.Ranges.{within}
use Rattle.trace.specs.declared.Part.{Part}
use Rattle.trace.specs.Tail.{tail_bytes}
use Rattle.trace.specs.Ring.{held_in}
use Rattle.model.specs.declared.Profile.{Profile}
use Rattle.model.specs.State.{fresh}
use Rattle.model.specs.Machine.{Call, Outcome, run, after}
use Rattle.record.specs.Box.{state_of}
use Rattle.outcome.specs.Claims.{pulses_in}
use Rattle.calls.specs.Calls.{call_of}
use Rattle.calls.specs.Readout.{readout_of}
use Rattle.demands.specs.Copied.{copied, read_to}
use Rattle.demands.specs.FreshBox.{trace}
use Rattle.demands.specs.History.{Turn, Turn.call, Turn.readout, Kept, next, last, LentTo, History, at_first, calls, Spoken, spoken}

-- as document 01's machine says it
abbrev pub documented : Outcome → Spoken
documented o = record { answer = o.answer; reply = o.reply; pulses = pulses_in o.records }

-- the bytes of the longest fitting tail of all records that the machine has released
abbrev pub tail_of : Profile → ℕ → List Call → List ℕ
tail_of p capacity cs = tail_bytes capacity (trace (run p fresh cs))

-- no turn is answered 12, 13 or 14
abbrev pub answer_of : Kept → Turn → ℕ
answer_of h (call c buf at) = (call_of h.box buf at c).called.said.answer
answer_of h (readout out buf at) = (readout_of h.box buf at (length out)).answer

unfoldable pub NoneRefused : Kept → List Turn → Type 0
NoneRefused h [] = Unit
NoneRefused h (t ∷ ts) = (within 12 (answer_of h t) 14 ≡ false) × NoneRefused (next h t) ts

pub record Demand2 {p : Profile} (h : History p) : Type 0 where
  -- every answer, reply and pulse is the document machine's for the calls so far
  pub said : spoken (at_first h) h.turns ≡ map documented (run p fresh (calls h.turns))
  pub none : NoneRefused (at_first h) h.turns
  -- the box carries the machine's state
  pub state : state_of (last (at_first h) h.turns).box ≡ after p fresh (calls h.turns)
  -- the ring holds the longest fitting tail of all records so far, and wherever it is lent a readout copies its bytes
  pub ring : held_in (last (at_first h) h.turns).bytes (last (at_first h) h.turns).box.ring ≡ tail_of p h.capacity (calls h.turns)
  pub reads : (buf : List ℕ) (at : Part) (out : List ℕ) → LentTo (last (at_first h) h.turns) buf at
      → read_to (last (at_first h) h.turns).box buf at out ≡ copied (tail_of p h.capacity (calls h.turns)) out

abbrev pub Demand2Holds : Type 0
Demand2Holds = (p : Profile) (h : History p) → Demand2 h
