-- Demand 2 leaves one program. Assumes nothing.
use mathlib.Core.Path.{sym, ◌∙◌}
use Rattle.demands.specs.Program.{OneProgram}

pub meets_alike : OneProgram
meets_alike x y m n =
    record {
      makes = λ p capacity. m.made p capacity ∙ sym (n.made p capacity);
      says = λ p capacity rs c. m.said p capacity rs c ∙ sym (n.said p capacity rs c);
      reads = λ p capacity rs out. m.read p capacity rs out ∙ sym (n.read p capacity rs out);
    }
