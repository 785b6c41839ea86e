-- Calls with one buffer, one after the other: whatever the bytes and ticks, and readouts between them, a proper history has them.
use Rattle.std.specs.Prelude.{ℕ, true, ◌≡◌, List, [], ◌∷◌, length}
use Rattle.trace.specs.declared.Part.{Part}
use Rattle.trace.specs.Ring.{good_part, part}
use Rattle.model.specs.declared.Profile.{Profile}
use Rattle.model.specs.Machine.{Call}
use Rattle.record.specs.declared.Box.{Box}
use Rattle.calls.specs.Making.{make_of}
use Rattle.calls.specs.Filed.{Answered}
use Rattle.calls.specs.Calls.{call_of}
use Rattle.demands.specs.History.{Turn, Turn.call, Turn.readout, last, LentTo, Proper, just_made, Request, Request.act, Request.show, requests, acts}

-- a box, and the buffer that is lent with it
pub record Bench : Type 0 where
  pub box : Box
  pub buf : List ℕ

unfoldable pub onward : Part → Bench → Call → Bench
onward at k c = let r : Answered = call_of k.box k.buf at c in record { box = r.called.next; buf = r.buf }

-- as calls leave them
unfoldable pub bench_after : Part → Bench → List Call → Bench
bench_after at k [] = k
bench_after at k (c ∷ cs) = bench_after at (onward at k c) cs

-- requests as turns
unfoldable pub turns_of : Part → Bench → List Request → List Turn
turns_of at k [] = []
turns_of at k (act c ∷ rs) = call c k.buf at ∷ turns_of at (onward at k c) rs
turns_of at k (show out ∷ rs) = readout out k.buf at ∷ turns_of at k rs

-- from a box just made on, with this buffer
abbrev pub bench_of : Profile → ℕ → List ℕ → Bench
bench_of p capacity buf = record { box = (make_of p capacity).made; buf = buf }

-- they are proper, and so is the buffer that they leave
pub record HasHistory (p : Profile) (capacity : ℕ) (buf : List ℕ) (at : Part) (rs : List Request) : Type 0 where
  pub same : requests (turns_of at (bench_of p capacity buf) rs) ≡ rs
  pub proper : Proper (just_made p capacity (part buf at)) (turns_of at (bench_of p capacity buf) rs)
  pub lent : LentTo (last (just_made p capacity (part buf at)) (turns_of at (bench_of p capacity buf) rs))
      (bench_after at (bench_of p capacity buf) (acts rs)).buf at

abbrev pub AnyHistory : Type 0
AnyHistory =
    (p : Profile) (capacity : ℕ) (buf : List ℕ) (at : Part) (rs : List Request)
    → (make_of p capacity).answer ≡ 0 → good_part (length buf) at capacity ≡ true → HasHistory p capacity buf at rs
