-- Bytes after a frame do not matter to its reader. Assumes nothing.
use Prim.Native.Nat.{ℕ, zero, suc, ◌+◌, ◌*◌, ◌≤◌, ◌<◌}
use mathlib.Core.Bool.{Bool, true, false}
use mathlib.Core.Path.{◌≡◌, refl}
use mathlib.Core.List.{List, ◌++◌}
use native.Mathlib.Omega.{arith}
use lib.Dec.{ltb, eqb, eqb-suc-zero}
use lib.ListN.{length, get_or, length-append, get_or-append}
use lib.Seq.{take-append-le}
use borrow.Author.Tests.{le-ltb, ltb-false, eqb-false, ne_eqb}
use Rattle.bits.specs.High.{high}
use Rattle.commands.specs.Ranges.{good_count}
use Rattle.frames.specs.Layout.{ident_in, size_for, init_word, entry_in, settings_in, entries_in, command_in, check_in}
use Rattle.frames.specs.Reader.{read_frame}
use Rattle.demands.specs.RoundTrips.{RestUnused}
use Rattle.frames.proofs.Idents.{for_each_ident}

-- what so many bytes hold is the same with more bytes behind them
module _ (s rest : List ℕ) where
  same_byte : (i : ℕ) → i < length s → get_or (s ++ rest) i 0 ≡ get_or s i 0
  same_byte i h = get_or-append s rest 0 i h

  same_word : 6 ≤ length s → init_word (s ++ rest) ≡ init_word s
  unfolding init_word
  same_word h =
      rw (
        same_byte 0 (omega arith),
        same_byte 1 (omega arith),
        same_byte 2 (omega arith),
        same_byte 3 (omega arith),
        same_byte 4 (omega arith),
        same_byte 5 (omega arith),
      )

  same_entry : (low at : ℕ) → at + 3 ≤ length s → entry_in low (s ++ rest) at ≡ entry_in low s at
  unfolding entry_in
  same_entry low at h = rw (same_byte at (omega arith), same_byte (at + 1) (omega arith), same_byte (at + 2) (omega arith))

  same_settings : (at count : ℕ) → at + 3 * count ≤ length s → settings_in (s ++ rest) at count ≡ settings_in s at count
  unfolding settings_in
  same_settings at zero h = refl
  same_settings at (suc count) h = rw (same_entry 5 at (omega arith), same_settings (at + 3) count (omega arith))

  module _ (count : ℕ) (some : 0 < length s) (whole : size_for (ident_in s) count ≤ length s) where
    same_command : command_in (s ++ rest) count ≡ command_in s count
    unfolding command_in entries_in
    same_command =
        for_each_ident s
        (λ e. rw (same_byte 0 some, e, same_word (rw e at whole)))
        (λ e. rw (same_byte 0 some, e, same_settings 1 count (rw e at whole)))
        (λ e. rw (same_byte 0 some, e))
        (λ e. rw (same_byte 0 some, e, same_entry 4 1 (rw e at whole)))

    same_check : check_in (s ++ rest) ≡ check_in s
    unfolding check_in
    same_check =
        let other : (k : ℕ) → ident_in s ≡ suc k → check_in (s ++ rest) ≡ check_in s = λ k e. rw (same_byte 0 some, e, eqb-suc-zero k) in
        for_each_ident s (λ e. rw (same_byte 0 some, e, same_word (rw e at whole))) (other 0) (other 1) (other 2)

    same_read : read_frame (s ++ rest) count ≡ read_frame s count
    unfolding read_frame
    same_read =
        let n = size_for (ident_in s) count in
        let longer : length s ≤ length (s ++ rest) = simp length-append (omega arith) in
        let has = ne_eqb (length s) 0 (omega arith) in
        let has-too = ne_eqb (length (s ++ rest)) 0 (omega arith) in
        let full = le-ltb (length s) n whole in
        let full-too = le-ltb (length (s ++ rest)) n (omega arith) in
        simp (same_byte 0 some, has, has-too, full, full-too, take-append-le n s rest whole, same_command, same_check)

-- by the tests that come before the first look past the first byte
module _ (s rest : List ℕ) (count : ℕ) (enough : (read_frame s count).answer ≡ 1 → ⊥) where
  by_tests : (counted none up short : Bool) → good_count count ≡ counted → eqb (length s) 0 ≡ none → high (get_or s 0 0) ≡ up
      → ltb (length s) (size_for (ident_in s) count) ≡ short → read_frame (s ++ rest) count ≡ read_frame s count
  unfolding read_frame
  by_tests false none up short c z h l = simp c
  by_tests true true up short c z h l = absurd (enough (simp (c, z)))
  by_tests true false false short c z h l =
      let some : 0 < length s = omega (arith, eqb-false (length s) 0 z) in
      let more = ne_eqb (length (s ++ rest)) 0 (simp length-append (omega arith)) in
      simp (c, z, more, same_byte s rest 0 some, h)
  by_tests true false true true c z h l = absurd (enough (simp (c, z, h, l)))
  by_tests true false true false c z h l =
      same_read s rest count (omega (arith, eqb-false (length s) 0 z)) (ltb-false _ _ l)

pub rest_unused : RestUnused
rest_unused s rest count enough = by_tests s rest count enough _ _ _ _ refl refl refl refl
