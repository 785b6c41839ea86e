-- The laws of the scan that the code's proofs cite: a turn of it, and its end. Assumes nothing.
use mathlib.Core.Path.{◌≡◌}
use mathlib.Core.Bool.{true, false}
use mathlib.Core.List.{List}
use Prim.Native.Nat.{ℕ, ◌+◌, ◌≤◌, ◌<◌}
use native.Mathlib.Numerals.{add-one}
use lib.ListN.{length, drop, get_or, drop_of_length-le}
use lib.Seq.{drop-cons}
use native.Mathlib.Omega.{arith}
use borrow.Author.Tests.{ne_eqb}
use Rattle.std.specs.Prelude.{Some}
use Rattle.framing.specs.declared.Found.{Found}
use Rattle.framing.specs.Scan.{none, opens, closes, opened, scan, finished}

module _ (prev body b at : ℕ) where
  pub opened_yes : opens prev b ≡ true → at + 1 ≡ opened prev body b at
  unfolding opened
  opened_yes e = rw e

  pub opened_no : opens prev b ≡ false → body ≡ opened prev body b at
  unfolding opened
  opened_no e = rw e

module _ (prev body : ℕ) (s : List ℕ) (at : ℕ) where
  pub scan_found : at < length s → closes prev body (get_or s at 0) ≡ true → scan prev body at (drop at s) ≡ record { body = body; used = at + 1 }
  unfolding scan
  scan_found h e = rw (drop-cons s at 0, e)

  pub scan_on : at < length s → closes prev body (get_or s at 0) ≡ false
      → scan prev body at (drop at s) ≡ scan (get_or s at 0) (opened prev body (get_or s at 0) at) (at + 1) (drop (at + 1) s)
  unfolding scan
  scan_on h e = rw (drop-cons s at 0, e, add-one at)

  pub scan_end : length s ≤ at → scan prev body at (drop at s) ≡ none
  unfolding scan
  scan_end h = rw (drop_of_length-le s h)

pub some_found : (f : Found) → 0 < f.used → Some f ≡ finished f
some_found f h = rw (ne_eqb f.used 0 (λ (z : f.used ≡ 0). omega arith))
