-- `encode3::contents::content` meets its contract. Assumes nothing.
use mathlib.Core.Path.{◌∙◌}
use native.Mathlib.Omega.{arith}
use Rattle.commands3.specs.Contents.{content_of}
use Rattle.encode3.proofs.Bytes.{two_bytes}
use Rattle.encode3.proofs.Writable.{writable_parts, number_small}
use Rattle.encode3.proofs.contents.content.Goals as goal

pub returns : goal.returns
unfolding content_of
returns c =
    let p = writable_parts c.args.packet c.args.m c.requires in
    let small = number_small c.args.m.command c.args.m.pulse p.1 in
    let head = c.to_be_bytes.ensures ∙ two_bytes _ (omega (arith, c.number.ensures)) in
    rw (c.put_data.ensures, c.put.ensures, c.new-bytes.ensures, head, c.number.ensures)
