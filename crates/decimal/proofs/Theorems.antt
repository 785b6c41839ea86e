-- The promises of `specs/Claims`, proved. Assumes nothing.
use Prim.Native.Nat.{ℕ}
use mathlib.Core.Bool.{Bool, true, false, cond, ◌&&◌}
use mathlib.Core.Path.{◌≡◌, refl, sym, ap, ◌∙◌}
use mathlib.Core.Option.{none, some}
use native.Mathlib.Omega.{arith}
use Rattle.commands.proofs.Tests.{both}
use Rattle.decimal.specs.Decimal.{digits, all_digits, no_leading_zero, value_from, number_in}
use Rattle.decimal.specs.Claims.{ReadsWritten, WritesRead}
use Rattle.decimal.proofs.Digits.{digits_all}
use Rattle.decimal.proofs.Values.{value_digits, digits_no_zero, digits_value}

pub reads_written : ReadsWritten
unfolding number_in
reads_written n = rw (digits_all n, digits_no_zero n, value_digits n)

-- what a test lets through
pub through : (b : Bool) (x n : ℕ) → cond b (some x) none ≡ some n → (b ≡ true) × (x ≡ n)
through true x n e = (refl, (cc))
through false x n e = absurd (let z : ◌≡◌ {A = ℕ} 0 1 = cc in omega arith)

pub writes_read : WritesRead
unfolding number_in
writes_read t n e =
    let p = through (all_digits t && no_leading_zero t) (value_from 0 t) n e in
    let g = both (all_digits t) (no_leading_zero t) p.0 in
    ap digits (sym p.1) ∙ digits_value t g.0 g.1
