-- A command that is answered 0 passed every test. Assumes nothing.
use Prim.Native.Nat.{ℕ, zero, suc}
use mathlib.Core.Bool.{true, false, not, ◌&&◌, ◌||◌}
use mathlib.Core.Path.{◌≡◌, refl}
use mathlib.Core.List.{List, [], ◌∷◌, ◌++◌}
use native.Mathlib.Omega.{arith}
use lib.Dec.{eqb}
use lib.ListN.{get_or}
use borrow.Author.Tests.{not-false, eqb-true}
use Rattle.commands.specs.Answers.{Test, ◌when◌, first_of}
use Rattle.commands.specs.Commands.{Command, check_of, good}
use Rattle.commands.proofs.Tests.{Refusing, passed}
use Rattle.model.specs.declared.Profile.{Profile}
use Rattle.model.specs.declared.Core.{Core}
use Rattle.model.specs.State.{is_running, is_tripped}
use Rattle.model.specs.Judgement.{is_update, is_single, breaks_timing, in_hold, over_limit, refusals, judge}

-- where none refuses, each test was passed, by its place
unrefused : (ts : List Test) → Refusing ts → first_of ts ≡ 0 → (i : ℕ) → (get_or ts i (0 when false)).holds ≡ false
unrefused [] r e i = refl
unrefused (t ∷ ts) r e zero = (passed t.holds t.answer (first_of ts) r.0 e).0
unrefused (t ∷ ts) r e (suc i) = unrefused ts r.1 (passed t.holds t.answer (first_of ts) r.0 e).1 i

-- the tests, each passed
pub record Accepted (p : Profile) (m : Core) (k : ℕ) (c : Command) : Type 0 where
  pub right_check : k ≡ check_of c
  pub untripped : (is_update c || is_single c) && is_tripped m ≡ false
  pub values : good c ≡ true
  pub has_list : is_update c && not (is_running m) ≡ false
  pub no_list_lem : is_single c && is_running m ≡ false
  pub timing : breaks_timing m c ≡ false
  pub no_hold : in_hold m c ≡ false
  pub no_limit : over_limit p m c ≡ false

-- answer 0
pub accepted : (p : Profile) (m : Core) (k : ℕ) (c : Command) → judge p m k c ≡ 0 → Accepted p m k c
unfolding judge refusals
accepted p m k c e =
    let t =
    unrefused (refusals m k c ++ 9 when over_limit p m c ∷ [])
    (omega arith, (omega arith, (omega arith, (omega arith, (omega arith, (omega arith, (omega arith, (omega arith, tt)))))))) e in
    record {
      right_check = eqb-true k (check_of c) (not-false (eqb k (check_of c)) (t 0));
      untripped = t 1;
      values = not-false (good c) (t 2);
      has_list = t 3;
      no_list_lem = t 4;
      timing = t 5;
      no_hold = t 6;
      no_limit = t 7;
    }
