-- `reader3::Rehamove3::check_right` meets its contract. Assumes nothing.
use mathlib.Core.Path.{ap, ◌∙◌}
use Prim.Native.Nat.{◌-◌}
use native.Mathlib.Omega.{arith}
use lib.ListN.{length, drop, length-drop}
use lib.Seq.{take_all}
use Rattle.crc.specs.Crc.{crc16}
use Rattle.packets3.specs.Rehamove3.{says, check_right}
use Rattle.packets3.proofs.Lawful.{check_short}
use Rattle.reader3.proofs.Rehamove3Protocol1190.check_right.Goals as goal

pub returns-then-body-lt8 : goal.returns-then-body-lt8
returns-then-body-lt8 c = check_short c.args.body.now (omega arith)

pub returns : goal.returns
unfolding check_right
returns c =
    let b = c.args.body.now in
    c.is_said.ensures
    ∙ ap (says (drop 4 b)) (c.check16.ensures ∙ ap crc16 (take_all (length b - 8) (drop 8 b) (rw length-drop (omega arith))))
