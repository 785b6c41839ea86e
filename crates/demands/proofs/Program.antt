-- What a program that meets demand 2 says and reads out where a box is made. Assumes nothing.
use Prim.Native.Nat.{ℕ}
use mathlib.Core.Path.{◌≡◌}
use mathlib.Core.List.{List}
use Rattle.model.specs.declared.Profile.{Profile}
use Rattle.model.specs.State.{fresh}
use Rattle.model.specs.Machine.{Call, outcome, step, after}
use Rattle.calls.specs.Making.{make_answer}
use Rattle.demands.specs.History.{Request, acts}
use Rattle.demands.specs.Copied.{copied}
use Rattle.demands.specs.Demand2.{documented, tail_of}
use Rattle.demands.specs.Program.{Program, Meets}

module _ {x : Program} (m : Meets x) (p : Profile) (capacity : ℕ) (made : make_answer p capacity ≡ 0) where
  pub meets_says : (rs : List Request) (c : Call) → x.says p capacity rs c ≡ documented (outcome (step p (after p fresh (acts rs)) c))
  meets_says rs c = rw made at (m.said p capacity rs c)

  pub meets_reads : (rs : List Request) (out : List ℕ) → x.reads p capacity rs out ≡ copied (tail_of p capacity (acts rs)) out
  meets_reads rs out = rw made at (m.read p capacity rs out)
