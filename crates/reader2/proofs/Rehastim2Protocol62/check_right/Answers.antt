-- `reader2::Rehastim2::check_right` meets its contract. Assumes nothing.
use mathlib.Core.Path.{ap, ◌∙◌}
use mathlib.Core.Bool.{◌&&◌}
use Prim.Native.Nat.{ℕ, ◌-◌}
use native.Mathlib.Omega.{arith}
use lib.ListN.{length, drop, get_or, length-drop}
use lib.Seq.{take_all}
use lib.Dec.{eqb}
use lib.Bits.{bit_xor}
use Rattle.crc.specs.Crc.{crc}
use Rattle.reader2.proofs.Header.{check_short, check_empty, check_whole}
use Rattle.reader2.proofs.Rehastim2Protocol62.check_right.Goals as goal

pub returns-then-body-lt2 : goal.returns-then-body-lt2
returns-then-body-lt2 c = check_short c.args.body.now (omega arith)

pub returns-then-body-lt4 : goal.returns-then-body-lt4
returns-then-body-lt4 c = check_empty c.args.body.now (omega arith)

pub returns : goal.returns
returns c =
    let b = c.args.body.now in
    ap (λ (n : ℕ). eqb (get_or b 0 0) 129 && eqb (get_or b 1 0) (bit_xor n 85)) (c.check8.ensures ∙ ap (crc 7 7 0) (take_all (length b - 4) (drop 4 b) (rw length-drop (omega arith)))) ∙ check_whole b
