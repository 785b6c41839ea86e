-- `writer2::write_good` meets its contract. Assumes nothing.
use mathlib.Core.Path.{ap, ◌∙◌}
use mathlib.Core.List.{List}
use Prim.Native.Nat.{ℕ}
use native.Mathlib.Omega.{arith}
use lib.ListN.{length, length-take}
use Rattle.framing.specs.Packet.{size_written, some_size, written_to}
use Rattle.commands2.proofs.DataBytes.{length_data_le}
use Rattle.packets2.specs.Rehastim2.{header_of}
use Rattle.writer2.proofs.Written.{data_size, content_is, content_within}
use Rattle.writer2.proofs.write_good.Goals as goal

pub overflow_add-n : goal.overflow_add-n
overflow_add-n c = record { fits = omega (arith, data_size _ c.args.c c.data_of-d.ensures, length_data_le c.args.c) }

pub slice_bounds-content-end : goal.slice_bounds-content-end
slice_bounds-content-end c = content_within c.args.packet _ c.args.c c.number.ensures _ c.data_of-d.ensures _ c.content_of-content.ensures

pub slice_bounds-write_content-end : goal.slice_bounds-write_content-end
slice_bounds-write_content-end c = let k = content_within c.args.packet _ c.args.c c.number.ensures _ c.data_of-d.ensures _ c.content_of-content.ensures in rw length-take (omega arith)

pub write_content-requires : goal.write_content-requires
write_content-requires c =
    let e = content_is c.args.packet _ c.args.c c.number.ensures _ c.data_of-d.ensures _ c.content_of-content.ensures in omega (arith, ap length e, length_data_le c.args.c)

pub returns-clause-size : goal.returns-clause-size
returns-clause-size c =
    let e = content_is c.args.packet _ c.args.c c.number.ensures _ c.data_of-d.ensures _ c.content_of-content.ensures in
    c.write_content.ensures.size ∙ ap (λ (l : List ℕ). some_size (size_written c.args.out.now (header_of l) l)) e

pub returns-clause-put : goal.returns-clause-put
returns-clause-put c =
    let e = content_is c.args.packet _ c.args.c c.number.ensures _ c.data_of-d.ensures _ c.content_of-content.ensures in
    c.write_content.ensures.put ∙ ap (λ (l : List ℕ). written_to c.args.out.now (header_of l) l) e
