-- An output with room for the longest data is never too short, so that a reading uses the bytes to the stop, and moves with its packet. Assumes nothing.
use Prim.Native.Nat.{ℕ, ◌+◌}
use mathlib.Core.Bool.{Bool, true, false, cond, not, true≢false}
use mathlib.Core.Path.{◌≡◌, refl}
use mathlib.Core.List.{List}
use lib.Dec.{eqb, ltb}
use lib.ListN.{length}
use borrow.Author.Tests.{le-ltb, not-false}
use Rattle.stuffing.specs.Stuffing.{pairs_good}
use Rattle.packets.specs.Generation.{Generation}
use Rattle.packets.specs.Reader.{plain, data_in, covered, refused, found, answered, body_answer}
use Rattle.packets.specs.Laws.{Lawful}
use Rattle.packets.specs.Row.{moved}

not_16 : (a b c d e f : Bool) → (b ≡ false → d ≡ false → f ≡ false)
    → eqb (cond a 3 (cond b 4 (cond c 4 (cond d 4 (cond e 4 (cond f 16 0)))))) 16 ≡ false
not_16 true b c d e f h = refl
not_16 false true c d e f h = refl
not_16 false false true d e f h = refl
not_16 false false false true e f h = refl
not_16 false false false false true f h = refl
not_16 false false false false false true h = absurd (true≢false (h refl refl))
not_16 false false false false false false h = refl

module _ {C : Type 0} (g : Generation C) where
  pub has_room : Lawful g → (body : List ℕ) → eqb (body_answer g body g.longest) 16 ≡ false
  has_room laws body =
      let c = covered g body in
      not_16 (not (g.check_right body)) (not (g.length_right body)) (not (pairs_good false c)) (not (g.size_good (length (plain c))))
      (not (g.right (plain c))) (ltb g.longest (length (data_in c)))
      (λ long size.
      le-ltb g.longest (length (data_in c))
      (laws.short_data body (not-false (g.length_right body) long) (not-false (g.size_good (length (plain c))) size)))

  -- so that a reading uses the bytes to the stop, and moves with its packet
  pub answered_used : (a : ℕ) (c : List ℕ) (used : ℕ) → eqb a 16 ≡ false → (answered g a c used).used ≡ used
  unfolding answered
  answered_used a c used e = rw e (by (eqb a 0))
    where
      by : (t : Bool) → (cond t (found g c used) (refused g a used)).used ≡ used
      by true = refl
      by false = refl

  pub answered_moved : (a : ℕ) (c : List ℕ) (n used : ℕ) → eqb a 16 ≡ false → answered g a c (n + used) ≡ moved n (answered g a c used)
  unfolding answered
  answered_moved a c n used e = rw e (by (eqb a 0))
    where
      by : (t : Bool) → cond t (found g c (n + used)) (refused g a (n + used)) ≡ moved n (cond t (found g c used) (refused g a used))
      by true = refl
      by false = refl
