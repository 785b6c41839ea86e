-- `writer2::write_content` meets its contract. Assumes nothing.
use mathlib.Core.Path.{ap₂, ◌∙◌}
use mathlib.Core.List.{[], ◌∷◌}
use Prim.Native.Nat.{ℕ}
use native.Mathlib.Omega.{arith}
use Rattle.framing.specs.Packet.{size_written, some_size, written_to}
use Rattle.packets2.specs.Rehastim2.{header_of}
use Rattle.writer2.proofs.Written.{length_fits}
use Rattle.writer2.proofs.write_content.Goals as goal

pub overflow_cast-header : goal.overflow_cast-header
overflow_cast-header c = record { fits = omega (arith, c.sum_stuffed-told.ensures.size, length_fits c.args.content.now c.requires) }

pub returns-clause-size : goal.returns-clause-size
unfolding header_of
returns-clause-size c =
    let x = c.sum_stuffed-told.ensures in
    c.write.ensures.size ∙ ap₂ (λ (n m : ℕ). some_size (size_written c.args.out.now (n ∷ m ∷ []) c.args.content.now)) x.check x.size

pub returns-clause-put : goal.returns-clause-put
unfolding header_of
returns-clause-put c =
    let x = c.sum_stuffed-told.ensures in
    c.write.ensures.put ∙ ap₂ (λ (n m : ℕ). written_to c.args.out.now (n ∷ m ∷ []) c.args.content.now) x.check x.size
