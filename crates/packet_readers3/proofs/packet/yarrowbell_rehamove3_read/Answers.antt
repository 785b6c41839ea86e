-- `packet_readers3::packet::yarrowbell_rehamove3_read` meets its contract. Assumes nothing.
use mathlib.Core.Path.{ap, ◌∙◌}
use Rattle.packets3.proofs.FewPoints.{few_points}
use Rattle.packet_readers3.specs.Reports.{as_packet}
use Rattle.packet_readers3.proofs.packet.yarrowbell_rehamove3_read.Goals as goal

pub report-requires : goal.report-requires
report-requires c =
    let a = c.args in
    rw c.read_packet.ensures.0 (few_points a.s.now a.out.now)

pub returns : goal.returns
returns c = let e = c.read_packet.ensures in (c.report.ensures ∙ ap as_packet e.0, e.1)
