-- The bytes of records in range can be written as a sheet. Assumes nothing.
use Prim.Native.Nat.{ℕ, ◌+◌, ◌*◌}
use mathlib.Core.Bool.{true}
use mathlib.Core.Path.{◌≡◌, ap, ◌∙◌}
use mathlib.Core.List.{List, map}
use native.Mathlib.Omega.{arith}
use lib.ListN.{length}
use Rattle.trace.specs.declared.Record.{Record}
use Rattle.trace.specs.Records.{bytes_of}
use Rattle.trace.specs.Rows.{joined, splits}
use Rattle.recorded.specs.Recorded.{records_in}
use Rattle.recorded.specs.Ranges.{all_in_range}
use Rattle.recorded.proofs.Bytes.{rows_split, records_of_rows}
use Rattle.recorded.proofs.Ranges.{all_held}
use Rattle.sheet.specs.Sheets.{sheet_of, readout_of}
use Rattle.sheet.proofs.Rows.{sheet_most}
use Rattle.sheet.proofs.Outcomes.{Writable}

pub rows_writable : (xs : List Record) (r : List ℕ) → all_in_range xs ≡ true → r ≡ joined (map bytes_of xs) → Writable r (44 + 4 * length r)
unfolding readout_of
rows_writable xs r g e =
    let same : records_in r ≡ xs = ap records_in e ∙ records_of_rows xs (all_held xs g) in
    record {
      splits_all = ap splits e ∙ rows_split xs;
      in_range_lem = ap all_in_range same ∙ g;
      fits = omega (arith, ap (λ (ys : List Record). length (sheet_of ys)) same, sheet_most xs g, ap length e);
    }
