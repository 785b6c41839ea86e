-- Slices that read as a good command: low bytes, what the reader's tests say where they pass, and that they pass. Assumes nothing.
use Prim.Native.Nat.{ℕ, zero, suc, ◌≤◌, ◌<◌}
use mathlib.Core.Bool.{Bool, true, false, cond, not}
use mathlib.Core.Path.{◌≡◌, refl, sym, ◌∙◌}
use mathlib.Core.List.{List, [], ◌∷◌, ◌++◌}
use native.Mathlib.Omega.{arith}
use lib.Dec.{eqb, eqb-suc-zero}
use lib.ListN.{length, length-append}
use lib.Seq.{take-append_seam}
use borrow.Author.Tests.{le-ltb, le-leb, lt-leb, eq-eqb, ltb-false, leb-false, eqb-true, ne_eqb, not-false}
use Rattle.bits.specs.Fields.{field}
use Rattle.bits.specs.High.{high, first_high}
use Rattle.commands.specs.Ranges.{good_count}
use Rattle.commands.specs.Commands.{Command, check_of, good}
use Rattle.commands.proofs.Tests.{passed, first_none}
use Rattle.frames.specs.Layout.{size_for, command_in, check_in}
use Rattle.frames.specs.Reader.{later, has_high, shape_tests, value_tests, found, answered, read_frame}
use Rattle.frames.proofs.Shaped.{Shaped, shape_refuses, shaped, has_first}

-- ---- low bytes

-- each byte of a list is low
abbrev pub Lows : List ℕ → Type 0
Lows [] = Unit
Lows (b ∷ s) = (b < 128) × Lows s

low_run : (s : List ℕ) → Lows s → first_high s ≡ length s
unfolding first_high
low_run [] h = refl
low_run (b ∷ s) h = simp (lt-leb 128 b h.0, low_run s h.1)

-- low bytes hold no high one
lows_none : (s : List ℕ) → Lows s → has_high s ≡ false
lows_none s h = le-ltb (first_high s) (length s) (omega (arith, low_run s h))

low_head : (b : ℕ) (s : List ℕ) (up : Bool) → high b ≡ up → suc (length s) ≤ cond up 0 (suc (first_high s))
    → (b < 128) × (length s ≤ first_high s)
low_head b s true e h = absurd (omega arith)
low_head b s false e h = (leb-false 128 b e, omega arith)

low_all : (s : List ℕ) → length s ≤ first_high s → Lows s
unfolding first_high
low_all [] h = tt
low_all (b ∷ s) h = let p = low_head b s _ refl h in (p.0, low_all s p.1)

-- where no byte is high, each is low
pub none_lows : (s : List ℕ) → has_high s ≡ false → Lows s
none_lows s e = low_all s (ltb-false _ _ e)

-- ---- the tests

-- a slice that reads as a good command
pub record Accepted (s : List ℕ) (count : ℕ) : Type 0 where
  pub shaped : Shaped s count
  pub right_check : check_in s ≡ check_of (command_in s count)
  pub good_values : good (command_in s count) ≡ true

-- the answer is that of the tests
answer_is : (a : ℕ) (c : Command) → (answered a c).answer ≡ a
answer_is zero c = refl
answer_is (suc a) c = simp eqb-suc-zero

pub accepted : (s : List ℕ) (count : ℕ) → (read_frame s count).answer ≡ 0 → Accepted s count
unfolding read_frame
accepted s count e =
    let c = command_in s count in
    let none = first_none (shape_tests s count) (value_tests (check_in s) c) (shape_refuses s count) (sym (answer_is _ c) ∙ e) in
    let t6 = passed (not (eqb (check_in s) (check_of c))) 3 _ (omega arith) none.1 in
    let t7 = passed (not (good c)) 4 0 (omega arith) t6.1 in
    record {
      shaped = shaped s count none.0;
      right_check = eqb-true _ _ (not-false _ t6.0);
      good_values = not-false _ t7.0;
    }

-- and they pass on a slice that is accepted
pub reads_found : (s : List ℕ) (count : ℕ) → Accepted s count → read_frame s count ≡ found (command_in s count)
unfolding read_frame
reads_found s count a =
    let h = a.shaped in
    let some = ne_eqb (length s) 0 (omega (arith, has_first s h.first_is_high)) in
    simp (h.counted, some, le-leb _ _ h.first_is_high, le-ltb _ _ h.whole, h.rest_low, eq-eqb _ _ a.right_check, a.good_values)

-- a high byte, so many low ones as its Ident asks for, and any bytes
pub framed : (b : ℕ) (low rest : List ℕ) (count : ℕ) → good_count count ≡ true → 128 ≤ b → Lows low
    → size_for (field b 5 2) count ≡ suc (length low) → Shaped (b ∷ low ++ rest) count
framed b low rest count g hb h e =
    let l : later (suc (length low)) (b ∷ low ++ rest) ≡ low = take-append_seam low rest in
    record {
      counted = g;
      first_is_high = hb;
      whole = rw e (simp length-append (omega arith));
      rest_low = rw (e, l) (lows_none low h);
    }
