-- `decode3::data_in` meets its contract: the data's tests and command at each number. Assumes nothing.
use mathlib.Core.Path.{◌≡◌, ◌∙◌}
use mathlib.Core.Bool.{false}
use native.Mathlib.Omega.{arith}
use lib.Dec.{eqb}
use borrow.Author.Tests.{ne_eqb}
use Rattle.charge.specs.Charge.{net_of}
use Rattle.commands3.specs.Commands.{message_of, right}
use Rattle.decode3.specs.Parts.{data_decoded}
use Rattle.decode3.proofs.Data.{init_decoded, init_ack_decoded, config_ack_decoded, stop_decoded, stop_ack_decoded}
use Rattle.decode3.proofs.data_in.Goals as goal

pub returns-in-0 : goal.returns-in-0
returns-in-0 c = rw c.in-0.is (c.tell.ensures ∙ init_decoded _ c.args.d.now _ c.byte_at-first.ensures)

pub returns-in-1 : goal.returns-in-1
returns-in-1 c =
    rw c.in-1.is (c.tell-in-1.ensures ∙ init_ack_decoded _ c.args.d.now _ c.byte_at-first.ensures _ c.good_result.ensures)

pub returns-in-3 : goal.returns-in-3
returns-in-3 c =
    rw c.in-3.is
    (c.tell-in-3.ensures
    ∙ config_ack_decoded _ c.args.d.now _ c.byte_at-first.ensures _ c.good_result-in-3.ensures _ _ c.byte_at-electrode.ensures c.good_electrode.ensures)

pub returns-in-4 : goal.returns-in-4
returns-in-4 c = rw c.in-4.is (c.tell-in-4.ensures ∙ stop_decoded _ c.args.d.now)

pub returns-in-5 : goal.returns-in-5
returns-in-5 c =
    rw c.in-5.is (c.tell-in-5.ensures ∙ stop_ack_decoded _ c.args.d.now _ c.byte_at-first.ensures _ c.good_result-in-5.ensures)

pub returns-in_default : goal.returns-in_default
unfolding data_decoded message_of right net_of
returns-in_default c =
    let n = c.args.number in
    let e0 : eqb n 0 ≡ false = ne_eqb n 0 (omega arith) in
    let e1 : eqb n 1 ≡ false = ne_eqb n 1 (omega arith) in
    let e2 : eqb n 2 ≡ false = ne_eqb n 2 (omega arith) in
    let e3 : eqb n 3 ≡ false = ne_eqb n 3 (omega arith) in
    let e4 : eqb n 4 ≡ false = ne_eqb n 4 (omega arith) in
    let e5 : eqb n 5 ≡ false = ne_eqb n 5 (omega arith) in
    c.tell-in_default.ensures ∙ simp (e0, e1, e2, e3, e4, e5)
