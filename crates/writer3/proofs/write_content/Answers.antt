-- `writer3::write_content` meets its contract. Assumes nothing.
use mathlib.Core.Path.{ap₂, ◌∙◌}
use mathlib.Core.List.{◌++◌}
use Prim.Native.Nat.{ℕ, ◌+◌}
use native.Mathlib.Omega.{arith}
use Rattle.framing.specs.Packet.{size_written, some_size, written_to}
use Rattle.commands3.specs.Contents.{two}
use Rattle.packets3.specs.Rehamove3.{header_of}
use Rattle.writer3.proofs.Content.{length_fits}
use Rattle.writer3.proofs.write_content.Goals as goal

pub overflow_add-n : goal.overflow_add-n
overflow_add-n c = record { fits = omega (arith, c.sum_stuffed-told.ensures.size, length_fits c.args.content.now c.requires) }

pub overflow_cast-header : goal.overflow_cast-header
overflow_cast-header c = record { fits = omega (arith, c.sum_stuffed-told.ensures.size, length_fits c.args.content.now c.requires) }

pub returns-clause-size : goal.returns-clause-size
unfolding header_of
returns-clause-size c =
    let x = c.sum_stuffed-told.ensures in
    c.write.ensures.size ∙ ap₂ (λ (n k : ℕ). some_size (size_written c.args.out.now (two (n + 10) ++ two k) c.args.content.now)) x.size x.check

pub returns-clause-put : goal.returns-clause-put
unfolding header_of
returns-clause-put c =
    let x = c.sum_stuffed-told.ensures in
    c.write.ensures.put ∙ ap₂ (λ (n k : ℕ). written_to c.args.out.now (two (n + 10) ++ two k) c.args.content.now) x.size x.check
