-- `crc::check`: the check of the bytes left, from q, is the check of all. Assumes nothing.
use mathlib.Core.Path.{◌≡◌}
use lib.ListN.{drop}
use Rattle.crc.specs.Crc.{crc}
use Rattle.crc.proofs.check.Given as goal

abbrev pub invariant-loop-b : goal.invariant-loop-b
invariant-loop-b g l =
    crc g.R.Remainder.top g.R.Remainder.polynomial (g.R.Remainder.number l.q) (drop l.b-index l.s)
    ≡ crc g.R.Remainder.top g.R.Remainder.polynomial (g.R.Remainder.number l.initial.q) l.s
