-- Fields put one below the other. Assumes nothing.
use Prim.Native.Nat.{ℕ, ◌+◌, ◌-◌, ◌*◌, ◌^◌, ◌≤◌, ◌<◌}
use mathlib.Core.Path.{◌≡◌}
use native.Mathlib.Omega.{arith}
use native.Mathlib.Nat.{lt_of_lt_of_le}
use lib.Pow.{pow_mono}
use Rattle.bits.specs.Fields.{below}
use Rattle.bits.proofs.Fields.{below_fits, joined_lt}
use Rattle.commands.specs.declared.Init.{Init}
use Rattle.commands.proofs.Fits.{InitFits}
use Rattle.frames.specs.Bytes.{init_number}

-- an Init, below bit 7 of the first byte and its Ident
pub init_joined : (check : ℕ) (v : Init) → check < 2 ^ 3 → InitFits v → v.stim < 2 ^ 8 → v.lf < 2 ^ 8
    → below (below (below (below (below (below 4 3 check) 3 v.factor) 8 v.stim) 8 v.lf) 7 v.group) 11 v.main
    ≡ init_number check v
init_joined check v k f s l =
    let four : 4 < 2 ^ 3 = omega arith in
    let g : v.group < 2 ^ 7 = omega arith in
    let h1 = joined_lt 3 3 four k in
    let h2 = joined_lt 6 3 h1 f.factor_fits in
    let h3 = joined_lt 9 8 h2 s in
    let h4 = joined_lt 17 8 h3 l in
    let h5 = joined_lt 25 7 h4 g in
    rw (
      below_fits 3 3 four k (omega arith),
      below_fits 6 3 h1 f.factor_fits (omega arith),
      below_fits 9 8 h2 s (omega arith),
      below_fits 17 8 h3 l (omega arith),
      below_fits 25 7 h4 g (omega arith),
      below_fits 32 11 h5 f.main_fits (omega arith),
    )
    (nested check v.factor v.stim v.lf v.group v.main)
  where
    nested : (k f s l g m : ℕ)
        → (((((4 * 2 ^ 3 + k) * 2 ^ 3 + f) * 2 ^ 8 + s) * 2 ^ 8 + l) * 2 ^ 7 + g) * 2 ^ 11 + m
        ≡ 2 ^ 42 + k * 2 ^ 37 + f * 2 ^ 34 + s * 2 ^ 26 + l * 2 ^ 18 + g * 2 ^ 11 + m
    nested k f s l g m = omega arith

-- the first byte of an entry: a variable in bits 6 to `low`, two bits of Width at the bottom
module _ (low : ℕ) {lead x : ℕ} (h : low ≤ 7) (l : 2 ≤ low) (f : lead < 2 ^ (7 - low)) (b : x < 2 ^ 2) where
  x_fits : x < 2 ^ low
  x_fits = lt_of_lt_of_le b (pow_mono l)

  pub lead_below : below lead low x ≡ lead * 2 ^ low + x
  lead_below = below_fits (7 - low) low f x_fits (omega arith)

  pub lead_byte : below lead low x < 2 ^ 8
  lead_byte = let e : 7 - low + low ≡ 7 = omega arith in omega (arith, lead_below, rw e at (joined_lt (7 - low) low f x_fits))
