-- The reader's tests one after the other, as code goes through them. Assumes nothing.
use mathlib.Core.Path.{◌≡◌}
use mathlib.Core.Bool.{true}
use mathlib.Core.List.{List}
use Prim.Native.Nat.{ℕ}
use lib.ListN.{length}
use borrow.Author.Tests.{eq-eqb, ne_eqb}
use Rattle.framing.specs.declared.Found.{Found}
use Rattle.framing.specs.Scan.{first_found, body_at}
use Rattle.packets.specs.Generation.{Generation}
use Rattle.packets.specs.Reader.{covered, covered_answer, body_answer, refused, answered, reading, put, data_put}

module _ {C : Type 0} (g : Generation C) where
  -- ---- a body

  pub by_covered : (b out : List ℕ) → g.check_right b ≡ true → g.length_right b ≡ true → covered_answer g (covered g b) (length out) ≡ body_answer g b (length out)
  by_covered b out e f = rw (e, f)

  -- ---- any bytes, in which f is found

  module _ (s out : List ℕ) (f : Found) (e : f ≡ first_found s) where
    pub unfinished : f.used ≡ 0 → (refused g 1 0 ≡ reading g s (length out)) × (out ≡ data_put g s out)
    unfolding reading data_put
    unfinished h = (rw (← e, eq-eqb f.used 0 h), rw (← e, eq-eqb f.used 0 h))

    pub finished : (f.used ≡ 0 → ⊥)
        → (answered g (body_answer g (body_at s f) (length out)) (covered g (body_at s f)) f.used ≡ reading g s (length out))
        × (put (body_answer g (body_at s f) (length out)) (covered g (body_at s f)) out ≡ data_put g s out)
    unfolding reading data_put
    finished h = (rw (← e, ne_eqb f.used 0 h), rw (← e, ne_eqb f.used 0 h))
