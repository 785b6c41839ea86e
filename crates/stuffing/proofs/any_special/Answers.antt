-- `stuffing::any_special` meets its contract. The loop's invariant: one of the bytes passed, or of those left, is one of all.
-- Assumes nothing.
use mathlib.Core.Path.{◌≡◌, refl, sym, ap, ◌∙◌}
use mathlib.Core.Bool.{Bool, true, false, ◌||◌, or_assoc}
use Prim.Native.Nat.{ℕ, zero, suc, ◌≤◌, ◌+◌}
use native.Mathlib.Omega.{arith}
use borrow.Author.Rules.{rules}
use lib.Bits.{bit_or}
use lib.Dec.{ltb}
use lib.ListN.{drop, get_or}
use mir.Val.{bool_byte}
use Rattle.stuffing.specs.Stuffing.{any_special, special}
use Rattle.stuffing.proofs.Laws.{any_on, any_end}
use Rattle.stuffing.proofs.any_special.Goals as goal

joined : (n : ℕ) → n ≤ 1 → (t : Bool) → (ltb 0 (bit_or n (bool_byte t)) ≡ (ltb 0 n || t)) × (bit_or n (bool_byte t) ≤ 1)
joined zero h true = (refl, omega arith)
joined zero h false = (refl, omega arith)
joined (suc zero) h true = (refl, omega arith)
joined (suc zero) h false = (refl, omega arith)
joined (suc (suc n)) h t = absurd (omega arith)

pub loop-b-preserved : goal.loop-b-preserved
loop-b-preserved c =
    let l = c.loop-b in
    let s = c.args.bytes.now in
    let t = special (get_or s l.b-index 0) in
    let m = joined l.flags l.invariant.0 t in
    rw (c.from-flags.ensures, c.is_special.ensures) (
      m.1,
      ap (λ (u : Bool). u || any_special (drop (l.b-index + 1) s)) m.0 ∙ or_assoc (ltb 0 l.flags) t (any_special (drop (l.b-index + 1) s))
          ∙ ap (λ (u : Bool). ltb 0 l.flags || u) (sym (any_on s l.b-index (search rules))) ∙ l.invariant.1,
    )

pub returns : goal.returns
returns c =
    let l = c.loop-b in
    any_end (ltb 0 l.flags) c.args.bytes.now l.b-index (search rules) ∙ l.invariant.1
