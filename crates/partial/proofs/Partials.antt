-- Laws of the test of a partial frame. Assumes nothing.
use Prim.Native.Nat.{ℕ, ◌≤◌, ◌<◌}
use mathlib.Core.Bool.{◌&&◌}
use mathlib.Core.Path.{◌≡◌, refl, ◌∙◌}
use mathlib.Core.List.{List, [], ◌∷◌}
use native.Mathlib.Omega.{arith}
use lib.Dec.{ltb}
use lib.ListN.{length, get_or, take, drop}
use lib.Seq.{length-take-le, get_or-take}
use Rattle.bits.specs.Fields.{field}
use Rattle.bits.specs.High.{high}
use Rattle.frames.specs.Layout.{ident_in}
use Rattle.model.specs.declared.Core.{Core}
use Rattle.model.specs.Good.{all_low, good_size, good_partial}

module _ (m : Core) (size : ℕ) where
  -- a high byte followed by low ones, shorter than its kept length
  pub open_partial : (bytes : List ℕ) → 0 < length bytes
      → good_partial m size bytes ≡ high (get_or bytes 0 0) && all_low (drop 1 bytes) && ltb (length bytes) size && good_size m (ident_in bytes) size
  unfolding good_partial
  open_partial [] h = absurd (omega arith)
  open_partial (b ∷ bytes) h = refl

  -- the first n bytes of a record's
  pub open_record : (n : ℕ) (bytes : List ℕ) → 1 ≤ n → n ≤ length bytes
      → good_partial m size (take n bytes)
      ≡ high (get_or bytes 0 0) && all_low (drop 1 (take n bytes)) && ltb n size && good_size m (field (get_or bytes 0 0) 5 2) size
  open_record n bytes h l =
      let t : length (take n bytes) ≡ n = length-take-le n bytes l in
      let g : get_or (take n bytes) 0 0 ≡ get_or bytes 0 0 = get_or-take n bytes 0 0 h in
      open_partial (take n bytes) (omega arith) ∙ simp (t, g)
