-- Demand 1: any bytes, ticks, box record and lent memory get a defined answer, which is that each call is a function here. No call
-- writes outside the ring's named part, the output or the box lent to it. Answers 11 to 17 change no byte and no box field.
use Rattle.std.specs.Prelude.{ℕ, Bool, true, false, ◌≡◌, List, length, get_or, drop}
use Rattle.commands.specs.Ranges.{within}
use Rattle.commands.specs.Commands.{Command}
use Rattle.writers.specs.Writer.{wrote, written}
use Rattle.trace.specs.declared.Part.{Part}
use Rattle.trace.specs.Claims.{Outside, CallsKeep}
use Rattle.model.specs.declared.Profile.{Profile}
use Rattle.model.specs.Machine.{Call}
use Rattle.record.specs.declared.Box.{Box}
use Rattle.record.specs.Box.{good_box}
use Rattle.calls.specs.Making.{zero_box, make_of}
use Rattle.calls.specs.Calls.{call_of}
use Rattle.calls.specs.Readout.{readout_of, readout_bytes}
use Rattle.demands.specs.RoundTrips.{Held}

-- answers 11 to 17
abbrev pub leaves_all : ℕ → Bool
leaves_all answer = within 11 answer 17

-- a byte or a tick
pub record CallKeeps (b : Box) (buf : List ℕ) (at : Part) (c : Call) : Type 0 where
  pub size : length (call_of b buf at c).buf ≡ length buf
  pub outside : (i : ℕ) → Outside at i → get_or (call_of b buf at c).buf i 0 ≡ get_or buf i 0
  pub refused : leaves_all (call_of b buf at c).called.said.answer ≡ true
      → ((call_of b buf at c).buf ≡ buf) × ((call_of b buf at c).called.next ≡ b)

-- a readout, to which box and buffer are lent for reading alone: what lies past the reported bytes
pub record ReadoutKeeps (b : Box) (buf : List ℕ) (at : Part) (out : List ℕ) : Type 0 where
  pub size : length (readout_bytes b buf at out) ≡ length out
  pub past : drop (readout_of b buf at (length out)).used (readout_bytes b buf at out) ≡ drop (readout_of b buf at (length out)).used out
  pub refused : leaves_all (readout_of b buf at (length out)).answer ≡ true → readout_bytes b buf at out ≡ out

-- a writer
pub record WriterKeeps (c : Command) (out : List ℕ) : Type 0 where
  pub size : length (written c out) ≡ length out
  pub past : drop (wrote c out).used (written c out) ≡ drop (wrote c out).used out
  pub refused : leaves_all (wrote c out).answer ≡ true → written c out ≡ out

-- a box that is not made is a record of zeros, which is not good: no call takes it
pub record MakeRefuses (p : Profile) (capacity : ℕ) : Type 0 where
  pub zero : leaves_all (make_of p capacity).answer ≡ true → (make_of p capacity).made ≡ zero_box
  pub not_good : good_box zero_box ≡ false

-- box records and commands are as the code's types hold them: a partial frame has 25 bytes
pub record Demand1 : Type 0 where
  pub calls : (b : Box) (buf : List ℕ) (at : Part) (c : Call) → length b.partial.bytes ≡ 25 → CallKeeps b buf at c
  pub readouts : (b : Box) (buf : List ℕ) (at : Part) (out : List ℕ) → ReadoutKeeps b buf at out
  pub makings : (p : Profile) (capacity : ℕ) → MakeRefuses p capacity
  pub writers : (c : Command) (out : List ℕ) → Held c → WriterKeeps c out
  -- the ring's own calls, without a box
  pub pushes : CallsKeep
