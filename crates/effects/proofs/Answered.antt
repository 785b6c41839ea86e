-- What becomes of a frame that was read, or refused. Assumes nothing.
use Prim.Native.Nat.{ℕ}
use mathlib.Core.Bool.{true, false, ◌&&◌, ◌||◌}
use mathlib.Core.Path.{◌≡◌, refl}
use lib.Dec.{eqb}
use borrow.Author.Tests.{ne_eqb}
use Rattle.std.specs.Prelude.{Result, Ok, Err}
use Rattle.commands.specs.declared.refusals.Refusal.{Refusal}
use Rattle.commands.specs.Refusals.{number, answer}
use Rattle.commands.proofs.Numbers.{refused}
use Rattle.frames.specs.declared.Frame.{Frame}
use Rattle.frames.specs.Reader.{reported}
use Rattle.model.specs.declared.Profile.{Profile}
use Rattle.model.specs.declared.Core.{Core}
use Rattle.model.specs.State.{is_tripped}
use Rattle.decided.specs.ByValue.{drop_frame}
use Rattle.effects.specs.Deciding.{late, command_from, decide_read}

same_answer : (r : Result Frame Refusal) → (reported r).answer ≡ answer r
same_answer (Ok f) = refl
same_answer (Err refusal) = refl

module _ (p : Profile) (clock : ℕ) (m : Core) (k : ℕ) where
  pub wrong_check : (r : Result Frame Refusal) → answer r ≡ 3 → decide_read p clock m k (reported r) ≡ drop_frame clock m k 3
  unfolding decide_read
  wrong_check r e = rw (same_answer r, e)

  pub shut_out : (r : Result Frame Refusal) → (answer r ≡ 3 → ⊥) → (eqb k 1 || eqb k 3) && is_tripped m ≡ true
      → decide_read p clock m k (reported r) ≡ drop_frame clock m k 10
  unfolding decide_read
  shut_out r n e = rw (same_answer r, ne_eqb (answer r) 3 n, e)

  module _ (e : (eqb k 1 || eqb k 3) && is_tripped m ≡ false) where
    pub read_on : (f : Frame) → decide_read p clock m k (reported (Ok f)) ≡ late p clock m (command_from k f.fields)
    unfolding decide_read
    read_on f = rw e

    pub not_good : (refusal : Refusal) → (number refusal ≡ 3 → ⊥) → decide_read p clock m k (reported (Err refusal)) ≡ drop_frame clock m k 4
    unfolding decide_read
    not_good refusal n = rw (ne_eqb (number refusal) 3 n, e, ne_eqb (number refusal) 0 (refused refusal))

pub ruleset reads = (wrong_check, shut_out, read_on, not_good)
