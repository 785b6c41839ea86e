-- `writer2::put_packet` meets its contract. Assumes nothing.
use mathlib.Core.Path.{sym, ◌∙◌}
use Rattle.packets.specs.Writer.{framed}
use Rattle.packets.proofs.Written.{not_good, none_written, some_written, some_small}
use Rattle.commands2.specs.Commands.{good}
use Rattle.packets2.specs.Rehastim2.{header_of}
use Rattle.writer2.specs.Writer.{content_of}
use Rattle.writer2.proofs.Written.{packet_small}
use Rattle.writer2.proofs.put_packet.Goals as goal

pub returns-then-not-good : goal.returns-then-not-good
unfolding framed
returns-then-not-good c =
    let a = c.args in
    let content = content_of a.packet a.c in
    let w = not_good (good a.c) (header_of content) content a.out.now (sym c.good.ensures ∙ c.if-not-good.true) in record { told = w.0; put = w.1 }

pub overflow_cast-result : goal.overflow_cast-result
overflow_cast-result c =
    let a = c.args in
    let content = content_of a.packet a.c in
    record { fits = some_small (header_of content) content a.out.now c.in-Some.used (sym c.in-Some.is ∙ c.write_good.ensures.size) (packet_small a.packet a.c) }

pub returns-in-Some : goal.returns-in-Some
unfolding framed
returns-in-Some c =
    let a = c.args in
    let content = content_of a.packet a.c in
    let w = some_written (good a.c) (header_of content) content a.out.now (sym c.good.ensures ∙ c.if-not-good.false) c.in-Some.used
    (sym c.in-Some.is ∙ c.write_good.ensures.size) in
    record { told = w.0; put = c.write_good.ensures.put ∙ w.1 }

pub returns-in-None : goal.returns-in-None
unfolding framed
returns-in-None c =
    let a = c.args in
    let content = content_of a.packet a.c in
    let w = none_written (good a.c) (header_of content) content a.out.now (sym c.good.ensures ∙ c.if-not-good.false) (sym c.in-None.is ∙ c.write_good.ensures.size) in
    record { told = w.0; put = c.write_good.ensures.put ∙ w.1 }
