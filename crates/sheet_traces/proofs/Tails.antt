-- The tail of records in range is the bytes of some of them, all in range. Assumes nothing.
use Prim.Native.Nat.{ℕ}
use mathlib.Core.Bool.{true}
use mathlib.Core.Path.{◌≡◌, refl}
use mathlib.Core.List.{List, [], ◌∷◌, map}
use lib.Dec.{leb}
use lib.ListN.{length}
use Rattle.commands.proofs.Tests.{both}
use Rattle.trace.specs.declared.Record.{Record}
use Rattle.trace.specs.Records.{bytes_of}
use Rattle.trace.specs.Rows.{joined}
use Rattle.trace.specs.Tail.{tail_within}
use Rattle.model.proofs.Tests.{either_way}
use Rattle.recorded.specs.Ranges.{in_range, all_in_range}

-- the records of a tail
pub record Tail (room : ℕ) (xs : List Record) : Type 0 where
  pub records : List Record
  pub bytes : tail_within room (map bytes_of xs) ≡ map bytes_of records
  pub in_range_lem : all_in_range records ≡ true

pub tail_in : (room : ℕ) (xs : List Record) → all_in_range xs ≡ true → Tail room xs
unfolding tail_within all_in_range
tail_in room [] e = record { records = []; bytes = refl; in_range_lem = refl }
tail_in room (x ∷ xs) e =
    let t = tail_in room xs (both (in_range x) (all_in_range xs) e).1 in
    either_way (leb (length (joined (map bytes_of (x ∷ xs)))) room)
    (λ f. record { records = x ∷ xs; bytes = rw f; in_range_lem = e })
    (λ f. record { records = t.records; bytes = rw f t.bytes; in_range_lem = t.in_range_lem })
