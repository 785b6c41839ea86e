-- `slices::copy` meets its contract: one byte more is put, until there is none left or no room. Assumes nothing.
use mathlib.Core.Path.{◌≡◌, refl, sym, ◌∙◌}
use mathlib.Core.List.{List}
use Prim.Native.Nat.{ℕ, ◌<◌, ◌+◌}
use native.Mathlib.Numerals.{add-one}
use native.Mathlib.Omega.{arith}
use lib.ListN.{length, drop, get_or, set, length-set}
use lib.Seq.{drop-cons}
use Rattle.slices.proofs.Overlay.{from, from_on, from_past}
use Rattle.slices.proofs.copy.Goals as goal

pub loop-i-init : goal.loop-i-init
loop-i-init c = (refl, refl)

turn : (out s : List ℕ) (i : ℕ) → i < length s → from (i + 1) (drop (i + 1) s) (set out i (get_or s i 0)) ≡ from i (drop i s) out
turn out s i h = from_on i (get_or s i 0) (drop (i + 1) s) out ∙ rw (add-one i, drop-cons s i 0 h)

pub loop-i-preserved : goal.loop-i-preserved
loop-i-preserved c =
    let l = c.loop-i in
    let s = c.args.bytes.now in
    let more : l.i < length s = omega (arith, c.loop-i-test.true, c.min-n.ensures) in
    (length-set l.out l.i (get_or s l.i 0) ∙ l.invariant.0, turn l.out s l.i more ∙ l.invariant.1)

pub returns : goal.returns
returns c =
    let l = c.loop-i in
    let s = c.args.bytes.now in
    sym (from_past l.i s l.out (omega (arith, c.loop-i-test.false, c.min-n.ensures, l.invariant.0))) ∙ l.invariant.1
