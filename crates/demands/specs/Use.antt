-- The library as a program, in every way in which its calls can be used.
use Rattle.std.specs.Prelude.{ℕ, ◌≡◌, List}
use Rattle.trace.specs.declared.Part.{Part}
use Rattle.model.specs.declared.Profile.{Profile}
use Rattle.model.specs.Machine.{Call}
use Rattle.calls.specs.Making.{make_answer, make_of}
use Rattle.calls.specs.Calls.{call_of}
use Rattle.demands.specs.History.{Turn, Kept, last, LentTo, Proper, just_made, Request, requests, Spoken, spoken_by}
use Rattle.demands.specs.Copied.{Copied, read_to}
use Rattle.demands.specs.Program.{Program, Meets}

-- what a user has done with a box when it has got these requests: turns with them, whatever the part held at first; and the buffer and part
-- that are lent with what comes next. Where a box was made, all of it is proper; where none was, it is anything at all.
pub record Used (p : Profile) (capacity : ℕ) (rs : List Request) : Type 0 where
  pub bytes : List ℕ
  pub turns : List Turn
  pub same : requests turns ≡ rs
  pub buf : List ℕ
  pub at : Part
  pub proper : make_answer p capacity ≡ 0
      → Proper (just_made p capacity bytes) turns × LentTo (last (just_made p capacity bytes) turns) buf at

-- what the turns leave
abbrev pub reached : {p : Profile} {capacity : ℕ} {rs : List Request} → Used p capacity rs → Kept
reached {p} {capacity} v = last (just_made p capacity v.bytes) v.turns

-- a use: any choice of these, for each byte or tick and for each readout
pub record Use : Type 0 where
  pub calling : (p : Profile) (capacity : ℕ) (rs : List Request) → Call → Used p capacity rs
  pub reading : (p : Profile) (capacity : ℕ) (rs : List Request) → List ℕ → Used p capacity rs

-- what the library's calls give then
abbrev pub said_next : {p : Profile} {capacity : ℕ} {rs : List Request} → Used p capacity rs → Call → Spoken
said_next v c = spoken_by (call_of (reached v).box v.buf v.at c).called.said

abbrev pub read_next : {p : Profile} {capacity : ℕ} {rs : List Request} → Used p capacity rs → List ℕ → Copied
read_next v out = read_to (reached v).box v.buf v.at out

unfoldable pub program_of : Use → Program
program_of u =
    record {
      makes = λ p capacity. (make_of p capacity).answer;
      says = λ p capacity rs c. said_next (u.calling p capacity rs c) c;
      reads = λ p capacity rs out. read_next (u.reading p capacity rs out) out;
    }

-- however it is used, the library meets demand 2
abbrev pub LibraryMeets : Type 0
LibraryMeets = (u : Use) → Meets (program_of u)
