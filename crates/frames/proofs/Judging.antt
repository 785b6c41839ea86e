-- Laws of the reader's ways out. Assumes nothing.
use Prim.Native.Nat.{ℕ, zero, suc, ◌+◌, ◌-◌, ◌*◌, ◌≤◌}
use mathlib.Core.Bool.{Bool, true, false, cond, not}
use mathlib.Core.Path.{◌≡◌, refl, sym, ap, ◌∙◌}
use mathlib.Core.List.{List, [], ◌∷◌, ◌++◌}
use native.Mathlib.Omega.{arith}
use native.Mathlib.Numerals.{sub-one}
use lib.Dec.{eqb}
use lib.ListN.{take, drop}
use lib.Seq.{take-nil}
use Rattle.std.specs.Prelude.{is_some, position}
use Rattle.bits.proofs.Highs.{some_high}
use borrow.Author.Tests.{eq-eqb, ne_eqb}
use Rattle.bits.specs.High.{high}
use Rattle.commands.specs.Answers.{◌when◌, first_of}
use Rattle.commands.specs.declared.refusals.Refusal.{Refusal}
use Rattle.commands.specs.Refusals.{number}
use Rattle.commands.specs.Commands.{Command, check_of, good}
use Rattle.commands.proofs.Numbers.{refused}
use Rattle.commands.proofs.Tests.{first_append}
use Rattle.frames.specs.declared.Fields.{Fields}
use Rattle.frames.specs.Layout.{size_for, command_in, check_in}
use Rattle.frames.specs.Bytes.{frame_size}
use Rattle.frames.specs.Reader.{later, has_high, shape_tests, value_tests, fields_of, found, refused_read, answered, tested_values, read_frame}
use Rattle.frames.proofs.Shaped.{shape_refuses}

-- ---- the tests of shape

-- a frame has a first byte
pub size_pos : (k count : ℕ) → 1 ≤ size_for k count
size_pos k count = sized (eqb k 0) (eqb k 1) (eqb k 2) where
  sized : (a b c : Bool) → 1 ≤ cond a 6 (cond b (1 + 3 * count) (cond c 1 4))
  sized true b c = omega arith
  sized false true c = omega arith
  sized false false true = omega arith
  sized false false false = omega arith

-- the bytes after the first, as a part of a slice
pub later_part : (n : ℕ) (s : List ℕ) → take (n - 1) (drop 1 s) ≡ later n s
later_part zero s = refl
later_part (suc n) [] = take-nil (suc n - 1)
later_part (suc n) (b ∷ s) = rw sub-one

-- a high byte is found there exactly if one is
pub part_high : (n : ℕ) (s : List ℕ) → has_high (later n s) ≡ is_some (position high (take (n - 1) (drop 1 s)))
part_high n s = rw later_part (sym (some_high (later n s)))

-- ---- what is handed back

-- 3; 4; else the command
by_tests : (right fine : Bool) (c : Command)
    → cond right (cond fine (found c) (refused_read 4)) (refused_read 3) ≡ answered (first_of (3 when not right ∷ 4 when not fine ∷ [])) c
by_tests true true c = refl
by_tests true false c = refl
by_tests false fine c = refl

pub judged_as : (k : ℕ) (c : Command) {right fine : Bool} {f : Fields} → right ≡ eqb k (check_of c) → fine ≡ good c → f ≡ fields_of c
    → cond right (cond fine (record { answer = 0; used = frame_size c; fields = f }) (refused_read 4)) (refused_read 3) ≡ tested_values k c
unfolding tested_values
judged_as k c r g e = rw (r, g, e) (by_tests (eqb k (check_of c)) (good c) c)

-- by the answer of the tests of shape
module _ (s : List ℕ) (count : ℕ) where
  then_values : first_of (shape_tests s count ++ value_tests (check_in s) (command_in s count))
      ≡ cond (eqb (first_of (shape_tests s count)) 0) (first_of (value_tests (check_in s) (command_in s count))) (first_of (shape_tests s count))
  then_values =
      first_append (shape_tests s count) (value_tests (check_in s) (command_in s count)) (shape_refuses s count)

  read_refused : (first_of (shape_tests s count) ≡ 0 → ⊥) → refused_read (first_of (shape_tests s count)) ≡ read_frame s count
  unfolding read_frame
  read_refused h =
      let e = ne_eqb (first_of (shape_tests s count)) 0 h in
      sym (ap (λ (a : ℕ). answered a (command_in s count)) (rw e at then_values) ∙ simp e)

  -- a refused frame is not read
  pub refused_as : (r : Refusal) → number r ≡ first_of (shape_tests s count) → refused_read (number r) ≡ read_frame s count
  refused_as r e = rw e (read_refused (λ z. refused r (e ∙ z)))

  -- one of the right shape is read on
  pub read_judged : first_of (shape_tests s count) ≡ 0 → tested_values (check_in s) (command_in s count) ≡ read_frame s count
  unfolding read_frame tested_values
  read_judged h =
      let e = eq-eqb (first_of (shape_tests s count)) 0 h in
      sym (ap (λ (a : ℕ). answered a (command_in s count)) (rw e at then_values))
