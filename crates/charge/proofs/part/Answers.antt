-- `charge::part` meets its contract: no number on the way passes 32 bits. Assumes nothing.
use mathlib.Core.Path.{◌≡◌}
use mathlib.Core.Bool.{true}
use native.Mathlib.Omega.{arith}
use lib.IntN.{pos, ◌-ℤ◌, ◌*ℤ◌}
use mir.Syntax.{w32}
use mir.Val.{SFits, to_z, of_z}
use mir.Facts.{to_z_pos, to_z-of_z}
use Rattle.charge.specs.declared.Point.{Point}
use Rattle.charge.specs.Charge.{of_paper, part_of}
use Rattle.charge.proofs.Sizes.{small_fits}
use Rattle.charge.proofs.Points.{paper_duration, paper_code, code_small, part_small}
use Rattle.charge.proofs.part.Goals as goal

module _ (p : Point) (e : of_paper p ≡ true) where
  duration : to_z w32 p.duration ≡ pos p.duration
  duration = to_z_pos w32 (omega (arith, paper_duration p e))

  code : to_z w32 p.code ≡ pos p.code
  code = to_z_pos w32 (omega (arith, paper_code p e))

  centred : SFits w32 (to_z w32 p.code -ℤ pos 300)
  centred = rw code (small_fits (pos p.code -ℤ pos 300) (omega (arith, code_small p e)))

  times : to_z w32 p.duration *ℤ to_z w32 (of_z w32 (to_z w32 p.code -ℤ pos 300)) ≡ part_of p
  unfolding part_of
  times = rw (duration, to_z-of_z centred, code)

  fits : SFits w32 (part_of p)
  fits = small_fits (part_of p) (omega (arith, part_small p e))

pub overflow_sub-result : goal.overflow_sub-result
overflow_sub-result c = centred c.args.p c.requires

pub overflow_mul-result : goal.overflow_mul-result
overflow_mul-result c = rw (times c.args.p c.requires) (fits c.args.p c.requires)

pub returns : goal.returns
returns c = rw (times c.args.p c.requires) (to_z-of_z (fits c.args.p c.requires))
