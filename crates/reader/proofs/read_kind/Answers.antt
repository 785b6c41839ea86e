use mathlib.Core.Path.{sym, ap₂, ◌∙◌}
use native.Mathlib.Omega.{arith}
use Rattle.frames.specs.Reader.{tested_values}
use Rattle.frames.proofs.Idents.{init_here, update_here, stop_here, single_here, check_3, check_5}
use Rattle.reader.proofs.read_kind.Goals as goal

pub returns-in-Init : goal.returns-in-Init
returns-in-Init c =
    let a = c.args in
    let k = sym c.in-Init.ensures in
    c.read_init.ensures ∙ sym (ap₂ tested_values (check_3 a.s.now k) (init_here a.s.now a.count k))

pub returns-in-Update : goal.returns-in-Update
returns-in-Update c =
    let a = c.args in
    let k = sym c.in-Update.ensures in
    c.read_update.ensures ∙ sym (ap₂ tested_values (check_5 a.s.now (omega arith)) (update_here a.s.now a.count k))

pub returns-in-Stop : goal.returns-in-Stop
returns-in-Stop c =
    let a = c.args in
    let k = sym c.in-Stop.ensures in
    c.read_stop.ensures ∙ sym (ap₂ tested_values (check_5 a.s.now (omega arith)) (stop_here a.s.now a.count k))

pub returns-in-Single : goal.returns-in-Single
returns-in-Single c =
    let a = c.args in
    let k = sym c.in-Single.ensures in
    c.read_single.ensures ∙ sym (ap₂ tested_values (check_5 a.s.now (omega arith)) (single_here a.s.now a.count k))
