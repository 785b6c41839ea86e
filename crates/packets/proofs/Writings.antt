-- What is written, by its answer. Assumes nothing.
use Prim.Native.Nat.{ℕ, ◌≤◌}
use mathlib.Core.Bool.{Bool, true, not}
use mathlib.Core.Path.{◌≡◌}
use mathlib.Core.List.{List}
use native.Mathlib.Omega.{arith}
use lib.Dec.{ltb}
use lib.ListN.{length}
use borrow.Author.Tests.{eq-eqb, ne_eqb, ltb-false, le-ltb, not-false}
use Rattle.commands.proofs.Tests.{passed}
use Rattle.packets.specs.Writer.{write_answer, wrote_of, written_of}
use Rattle.packets.proofs.Readings.{put_over}

module _ (good : Bool) (p out : List ℕ) where
  -- a good packet that fits is written
  pub answers_0 : good ≡ true → length p ≤ length out → write_answer good p out ≡ 0
  answers_0 g fits = rw (g, le-ltb (length out) (length p) fits)

  module _ (done : write_answer good p out ≡ 0) where
    pub good_written : good ≡ true
    good_written = not-false good (passed (not good) 4 _ (omega arith) done).0

    pub room_written : length p ≤ length out
    room_written =
        ltb-false (length out) (length p)
        (passed (ltb (length out) (length p)) 16 0 (omega arith) (passed (not good) 4 _ (omega arith) done).1).0

    pub used_written : (wrote_of good p out).used ≡ length p
    unfolding wrote_of
    used_written = rw (eq-eqb (write_answer good p out) 0 done)

    pub bytes_written : written_of good p out ≡ put_over p out
    unfolding written_of
    bytes_written = rw (eq-eqb (write_answer good p out) 0 done)

  module _ (refused : write_answer good p out ≡ 0 → ⊥) where
    pub none_used : (wrote_of good p out).used ≡ 0
    unfolding wrote_of
    none_used = rw (ne_eqb (write_answer good p out) 0 refused)

    pub none_written : written_of good p out ≡ out
    unfolding written_of
    none_written = rw (ne_eqb (write_answer good p out) 0 refused)
