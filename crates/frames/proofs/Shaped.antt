-- What the tests of a frame's shape say where they pass. Assumes nothing.
use Prim.Native.Nat.{ℕ, ◌≤◌, ◌<◌}
use mathlib.Core.Bool.{true, false, not}
use mathlib.Core.Path.{◌≡◌}
use mathlib.Core.List.{List, [], ◌∷◌}
use native.Mathlib.Omega.{arith}
use lib.Dec.{ltb, eqb}
use lib.ListN.{length, get_or}
use borrow.Author.Tests.{ltb-false, leb-true, not-false}
use Rattle.bits.specs.High.{high}
use Rattle.commands.specs.Answers.{first_of}
use Rattle.commands.specs.Ranges.{good_count}
use Rattle.commands.proofs.Tests.{Refusing, passed}
use Rattle.frames.specs.Layout.{ident_in, size_for}
use Rattle.frames.specs.Reader.{later, has_high, shape_tests}

-- a slice that begins with a frame's bytes
pub record Shaped (s : List ℕ) (count : ℕ) : Type 0 where
  pub counted : good_count count ≡ true
  pub first_is_high : 128 ≤ get_or s 0 0
  pub whole : size_for (ident_in s) count ≤ length s
  pub rest_low : has_high (later (size_for (ident_in s) count) s) ≡ false

-- each of the tests of shape refuses
pub shape_refuses : (s : List ℕ) (count : ℕ) → Refusing (shape_tests s count)
shape_refuses s count = (omega arith, (omega arith, (omega arith, (omega arith, (omega arith, tt)))))

pub shaped : (s : List ℕ) (count : ℕ) → first_of (shape_tests s count) ≡ 0 → Shaped s count
shaped s count e =
    let n = size_for (ident_in s) count in
    let t1 = passed (not (good_count count)) 4 _ (omega arith) e in
    let t2 = passed (eqb (length s) 0) 1 _ (omega arith) t1.1 in
    let t3 = passed (not (high (get_or s 0 0))) 2 _ (omega arith) t2.1 in
    let t4 = passed (ltb (length s) n) 1 _ (omega arith) t3.1 in
    let t5 = passed (has_high (later n s)) 17 0 (omega arith) t4.1 in
    record {
      counted = not-false _ t1.0;
      first_is_high = leb-true 128 _ (not-false _ t3.0);
      whole = ltb-false _ _ t4.0;
      rest_low = t5.0;
    }

-- a high byte is there
pub has_first : (s : List ℕ) → 128 ≤ get_or s 0 0 → 0 < length s
has_first [] h = absurd (omega arith)
has_first (b ∷ s) h = omega arith
