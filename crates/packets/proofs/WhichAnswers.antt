-- Reader and writer give no other numbers than these. Assumes nothing.
use Prim.Native.Nat.{ℕ}
use mathlib.Core.Bool.{Bool, true, false, cond, not}
use mathlib.Core.Path.{◌≡◌, refl}
use mathlib.Core.List.{List, [], ◌∷◌}
use lib.Dec.{eqb, ltb}
use lib.ListN.{length}
use Rattle.commands.specs.Answers.{◌when◌, is_one_of}
use Rattle.commands.proofs.Tests.{first_passes}
use Rattle.framing.specs.Scan.{first_found}
use Rattle.packets.specs.Generation.{Generation}
use Rattle.packets.specs.Reader.{Reading, covered, body_tests, body_answer, refused, found, answered, reading}
use Rattle.packets.specs.Writer.{wrote_of}
use Rattle.packets.proofs.Readings.{body_in, refused_as}

abbrev readable : List ℕ
readable = 0 ∷ 1 ∷ 3 ∷ 4 ∷ 16 ∷ []

module _ {C : Type 0} (g : Generation C) where
  -- one of two readings
  given : (t : Bool) (x y : Reading C) → is_one_of readable x.answer ≡ true → is_one_of readable y.answer ≡ true
      → is_one_of readable (cond t x y).answer ≡ true
  given true x y p q = p
  given false x y p q = q

  body_given : (a : ℕ) (c : List ℕ) (used : ℕ) → is_one_of readable a ≡ true → is_one_of readable (answered g a c used).answer ≡ true
  unfolding answered
  body_given a c used = given (eqb a 0) (found g c used) (refused_as g a used) refl

  pub reader_given : (s : List ℕ) (room : ℕ) → is_one_of readable (reading g s room).answer ≡ true
  unfolding reading
  reader_given s room =
      let a = body_answer g (body_in s) room in
      let used = (first_found s).used in
      given (eqb used 0) (refused g 1 0) (answered g a (covered g (body_in s)) used) refl
      (body_given a (covered g (body_in s)) used (first_passes (is_one_of readable) (body_tests g (body_in s) room) refl refl))

pub writer_given : (good : Bool) (p out : List ℕ) → is_one_of (0 ∷ 4 ∷ 16 ∷ []) (wrote_of good p out).answer ≡ true
unfolding wrote_of
writer_given good p out = first_passes (is_one_of (0 ∷ 4 ∷ 16 ∷ [])) (4 when not good ∷ 16 when ltb (length out) (length p) ∷ []) refl refl
