-- `framing::write` meets its contract. Assumes nothing.
use mathlib.Core.Path.{sym, ap, ◌∙◌}
use borrow.Author.Tests.{leb-true}
use Rattle.framing.specs.Packet.{some_size}
use Rattle.framing.proofs.Writing.{written_yes, written_no, some_yes}
use Rattle.framing.proofs.write.Goals as goal

pub put_packet-requires : goal.put_packet-requires
put_packet-requires c = leb-true _ _ (sym c.has_room.ensures ∙ c.if-has_room.true)

pub returns-then-has_room-clause-size : goal.returns-then-has_room-clause-size
returns-then-has_room-clause-size c =
    let a = c.args in
    some_yes a.header.now a.content.now a.out.now _ c.put_packet.ensures.0 (sym c.has_room.ensures ∙ c.if-has_room.true)

pub returns-then-has_room-clause-put : goal.returns-then-has_room-clause-put
returns-then-has_room-clause-put c =
    let a = c.args in
    c.put_packet.ensures.1 ∙ (written_yes a.header.now a.content.now a.out.now (sym c.has_room.ensures ∙ c.if-has_room.true)).1

pub returns-else-has_room-clause-size : goal.returns-else-has_room-clause-size
returns-else-has_room-clause-size c =
    let a = c.args in
    ap some_size (written_no a.header.now a.content.now a.out.now (sym c.has_room.ensures ∙ c.if-has_room.false)).0

pub returns-else-has_room-clause-put : goal.returns-else-has_room-clause-put
returns-else-has_room-clause-put c =
    let a = c.args in
    (written_no a.header.now a.content.now a.out.now (sym c.has_room.ensures ∙ c.if-has_room.false)).1
