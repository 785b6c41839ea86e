-- Programs, and which of them meet demand 2 (document 01, "Promises and idle programs"): it "fixes each answer and pulse from the history
-- of calls".
use Rattle.std.specs.Prelude.{ℕ, cond, ◌≡◌, List, [], eqb}
use Rattle.model.specs.declared.Profile.{Profile}
use Rattle.model.specs.State.{fresh}
use Rattle.model.specs.Machine.{Call, outcome, step, after}
use Rattle.calls.specs.Making.{make_answer}
use Rattle.demands.specs.History.{Request, acts, Spoken}
use Rattle.demands.specs.Copied.{Copied, copied}
use Rattle.demands.specs.Demand2.{documented, tail_of}

-- a program is any function from a profile, a capacity and the calls so far, readouts among them, to what is answered where a box is
-- made, said to a byte or a tick, and read out to an output
pub record Program : Type 0 where
  pub makes : Profile → ℕ → ℕ
  pub says : Profile → ℕ → List Request → Call → Spoken
  pub reads : Profile → ℕ → List Request → List ℕ → Copied

-- what document 01 wants said to a call behind these bytes and ticks, and read out. Where no box was made, the record is all zero, which
-- is not good: 12
abbrev pub says_of : Profile → ℕ → List Call → Call → Spoken
says_of p capacity cs c =
    cond (eqb (make_answer p capacity) 0)
    (documented (outcome (step p (after p fresh cs) c)))
    (record { answer = 12; reply = 0; pulses = [] })

abbrev pub reads_of : Profile → ℕ → List Call → List ℕ → Copied
reads_of p capacity cs out =
    cond (eqb (make_answer p capacity) 0)
    (copied (tail_of p capacity cs) out)
    (record { report = record { answer = 12; used = 0 }; output = out })

-- it meets demand 2, for every profile and capacity
pub record Meets (x : Program) : Type 0 where
  pub made : (p : Profile) (capacity : ℕ) → x.makes p capacity ≡ make_answer p capacity
  pub said : (p : Profile) (capacity : ℕ) (rs : List Request) (c : Call) → x.says p capacity rs c ≡ says_of p capacity (acts rs) c
  pub read : (p : Profile) (capacity : ℕ) (rs : List Request) (out : List ℕ) → x.reads p capacity rs out ≡ reads_of p capacity (acts rs) out

-- two programs that cannot be told apart
pub record Alike (x y : Program) : Type 0 where
  pub makes : (p : Profile) (capacity : ℕ) → x.makes p capacity ≡ y.makes p capacity
  pub says : (p : Profile) (capacity : ℕ) (rs : List Request) (c : Call) → x.says p capacity rs c ≡ y.says p capacity rs c
  pub reads : (p : Profile) (capacity : ℕ) (rs : List Request) (out : List ℕ) → x.reads p capacity rs out ≡ y.reads p capacity rs out

-- any two that meet demand 2 are: it leaves no other program
abbrev pub OneProgram : Type 0
OneProgram = (x y : Program) → Meets x → Meets y → Alike x y
