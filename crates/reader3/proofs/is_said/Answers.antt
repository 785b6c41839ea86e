-- `reader3::is_said` meets its contract. Assumes nothing.
use native.Mathlib.Nat.{add-zero}
use lib.Seq.{get_or-drop}
use Rattle.packets3.specs.Rehamove3.{says}
use Rattle.reader3.proofs.is_said.Goals as goal

pub returns : goal.returns
unfolding says
returns c =
    let a = c.args in
    let b = a.b.now in
    rw (get_or-drop a.at b 0 0, get_or-drop a.at b 1 0, get_or-drop a.at b 2 0, get_or-drop a.at b 3 0, add-zero a.at)
