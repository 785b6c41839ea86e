-- `encode3::contents::point_bytes` meets its contract. Assumes nothing.
use mathlib.Core.Path.{◌∙◌}
use native.Mathlib.Omega.{arith}
use Rattle.charge.proofs.Points.{paper_duration, paper_code}
use Rattle.encode3.proofs.Bytes.{four_bytes}
use Rattle.encode3.proofs.contents.point_bytes.Goals as goal

pub overflow_mul-p : goal.overflow_mul-p
overflow_mul-p c =
    record { fits = omega (arith, paper_duration c.args.p c.requires) }

pub overflow_add-p : goal.overflow_add-p
overflow_add-p c =
    record { fits = omega (arith, paper_duration c.args.p c.requires, paper_code c.args.p c.requires) }

pub returns : goal.returns
returns c = c.to_be_bytes.ensures ∙ four_bytes c.args.p c.requires
