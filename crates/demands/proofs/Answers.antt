-- Which answers the machine gives: 0 to 10, or, to a tick at the clock's end, 15, which leaves all. Assumes nothing.
use Prim.Native.Nat.{ℕ, ◌≤◌}
use mathlib.Core.Bool.{true, false}
use mathlib.Core.Path.{◌≡◌, refl}
use mathlib.Core.List.{[], ◌∷◌, ◌++◌}
use native.Mathlib.Omega.{arith}
use lib.Dec.{leb, lit≤}
use borrow.Author.Tests.{leb-true, lt-leb}
use Rattle.commands.specs.Answers.{◌when◌}
use Rattle.commands.specs.Ranges.{within}
use Rattle.commands.specs.Commands.{Command}
use Rattle.commands.proofs.Tests.{first_passes}
use Rattle.model.specs.declared.Profile.{Profile}
use Rattle.model.specs.declared.Core.{Core}
use Rattle.model.specs.State.{State, is_tripped}
use Rattle.model.specs.Judgement.{over_limit, refusals, judge}
use Rattle.model.specs.Arrival.{Arrival, Arrival.stray, Arrival.alone, Arrival.growing, Arrival.whole, Result, arrive, decided, judged, taken, byte_step}
use Rattle.model.specs.Machine.{Call, Call.byte, Call.tick, step}
use Rattle.model.proofs.Tests.{either_way, not_both}
use Rattle.model.proofs.Cases.{tick_cases}

-- what a call in state s gives back
pub data Way (s : State) (r : Result) : Type 0 where
  answers : r.answer ≤ 10 → Way s r
  ends : r ≡ record { state = s; answer = 15; reply = 0; records = [] } → Way s r

judge_most : (p : Profile) (m : Core) (k : ℕ) (c : Command) → judge p m k c ≤ 10
unfolding judge refusals
judge_most p m k c = leb-true _ 10 (first_passes (λ a. leb a 10) (refusals m k c ++ 9 when over_limit p m c ∷ []) refl refl)

taken_most : (p : Profile) (s : State) (x : Arrival) → (taken p s x).answer ≤ 10
unfolding taken judged decided
taken_most p s stray = lit≤ tt
taken_most p s alone = either_way (is_tripped s.core) (λ e. rw e (lit≤ tt)) (λ e. rw e (lit≤ tt))
taken_most p s (growing q) = lit≤ tt
taken_most p s (whole bytes) = judge_most p s.core _ _

pub byte_most : (p : Profile) (s : State) (n : ℕ) → (step p s (byte n)).answer ≤ 10
unfolding step byte_step
byte_most p s n = taken_most p s (arrive s.core s.partial n)

pub way : (p : Profile) (s : State) (c : Call) → Way s (step p s c)
unfolding step
way p s (byte n) = answers (byte_most p s n)
way p s tick = tick_cases (Way s) p s (ends refl) (λ _. answers (lit≤ tt))

-- no step is answered 12, 13 or 14
pub never : {s : State} {r : Result} → Way s r → within 12 r.answer 14 ≡ false
never {r = r} (answers h) = rw (lt-leb 12 r.answer (omega arith))
never (ends e) = rw e refl

-- and what is answered 11 to 17 leaves all
pub stays : {s : State} {r : Result} → Way s r → within 11 r.answer 17 ≡ true → r ≡ record { state = s; answer = 15; reply = 0; records = [] }
stays {r = r} (answers h) e = not_both e (rw (lt-leb 11 r.answer (omega arith)))
stays (ends e) w = e
