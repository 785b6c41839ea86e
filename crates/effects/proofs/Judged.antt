-- A whole frame is decided as document 01's machine judges it. Assumes nothing.
use Prim.Native.Nat.{ℕ, ◌/◌, ◌≤◌}
use mathlib.Core.Bool.{Bool, true, false, cond, not, ◌&&◌, ◌||◌}
use mathlib.Core.Path.{◌≡◌, refl, sym, ap, ◌∙◌}
use mathlib.Core.List.{List, [], ◌∷◌}
use native.Mathlib.Omega.{arith}
use lib.Dec.{ltb, eqb}
use lib.ListN.{length}
use borrow.Author.Tests.{ltb-false, le-ltb}
use Rattle.commands.specs.Answers.{◌when◌, first_of}
use Rattle.commands.specs.Commands.{Command, Command.init, Command.update, Command.stop, Command.single, ident_of, check_of, good}
use Rattle.frames.specs.Layout.{ident_in, size_for, command_in, check_in}
use Rattle.frames.specs.Reader.{Read, fields_of, answered}
use Rattle.frames.specs.Reader.{tested_values}
use Rattle.frames.proofs.Shaped.{shaped}
use Rattle.frames.proofs.Idents.{init_here, update_here, stop_here, single_here, for_each_ident}
use Rattle.frames.proofs.Judging.{read_judged}
use Rattle.model.specs.declared.Profile.{Profile}
use Rattle.model.specs.declared.Core.{Core}
use Rattle.model.specs.State.{is_tripped}
use Rattle.model.specs.Judgement.{asked, is_update, is_single, breaks_timing, in_hold, over_limit, refusals, judge}
use Rattle.model.specs.Effects.{accept, carry}
use Rattle.model.specs.Arrival.{decided, command_of, judged}
use Rattle.model.proofs.Tests.{either_way}
use Rattle.decided.specs.ByValue.{drop_frame}
use Rattle.effects.specs.Deciding.{late_tests, late, command_from, decide_read, told_count, decide_frame, Whole}

-- what an Update asks for does not depend on its count
same_late : (p : Profile) (clock : ℕ) (m : Core) (c : Command) → late p clock m (command_from (ident_of c) (fields_of c)) ≡ late p clock m c
unfolding late late_tests breaks_timing in_hold over_limit asked carry accept
same_late p clock m (init v) = refl
same_late p clock m (update count entries) = refl
same_late p clock m stop = refl
same_late p clock m (single v) = refl

-- by the check, the trip and the values
by_tests : (p : Profile) (clock : ℕ) (m : Core) (c : Command) (right shut fine : Bool)
    → let r : Read = answered (first_of (3 when not right ∷ 4 when not fine ∷ [])) c in
    let a : ℕ = cond (not right) 3 (cond shut 10 (cond (not fine) 4 (first_of (late_tests p m c)))) in
    cond (eqb r.answer 3) (drop_frame clock m (ident_of c) 3)
    (cond shut (drop_frame clock m (ident_of c) 10)
    (cond (eqb r.answer 0) (late p clock m (command_from (ident_of c) r.fields)) (drop_frame clock m (ident_of c) 4)))
    ≡ decided clock (ident_of c) a (carry clock m c a)
unfolding carry late
by_tests p clock m c false shut fine = refl
by_tests p clock m c true true true = refl
by_tests p clock m c true true false = refl
by_tests p clock m c true false false = refl
by_tests p clock m c true false true = same_late p clock m c

-- a command as the reader reports it
decided_as : (p : Profile) (clock : ℕ) (m : Core) (k : ℕ) (c : Command)
    → decide_read p clock m (ident_of c) (tested_values k c) ≡ judged p clock m k c
unfolding decide_read tested_values judged judge refusals late_tests
decided_as p clock m k c = by_tests p clock m c (eqb k (check_of c)) ((is_update c || is_single c) && is_tripped m) (good c)

module _ (s : List ℕ) (count : ℕ) where
  -- the Ident of the command in a slice
  ident_here : ident_of (command_in s count) ≡ ident_in s
  ident_here =
      for_each_ident s
      (λ e. rw (init_here s count e, e))
      (λ e. rw (update_here s count e, e))
      (λ e. rw (stop_here s count e, e))
      (λ e. rw (single_here s count e, e))

-- the reader's count is an Update's own, and does not matter for the others
same_command : (s : List ℕ) → Whole s → command_in s (told_count (length s)) ≡ command_of s
same_command s w =
    let n = told_count (length s) in
    for_each_ident s
    (λ e. init_here s n e ∙ sym (init_here s (length s / 3) e))
    (λ e.
    let f = shaped s n w in
    let h : 3 ≤ length s = long (length s) (rw e at f.whole) in
    rw (le-ltb (length s) 3 h))
    (λ e. stop_here s n e ∙ sym (stop_here s (length s / 3) e))
    (λ e. single_here s n e ∙ sym (single_here s (length s / 3) e))
  where
    long : (k : ℕ) → size_for 1 (told_count k) ≤ k → 3 ≤ k
    long k h = either_way (ltb k 3) (λ e. let l : 4 ≤ k = rw e at h in omega arith) (λ e. ltb-false k 3 e)

pub whole_decided : (p : Profile) (clock : ℕ) (m : Core) (s : List ℕ) → Whole s
    → decide_frame p clock m s ≡ judged p clock m (check_in s) (command_of s)
whole_decided p clock m s w =
    let n = told_count (length s) in
    let c = command_in s n in
    rw (← read_judged s n w, ← ident_here s n) (decided_as p clock m (check_in s) c)
    ∙ ap (judged p clock m (check_in s)) (same_command s w)
