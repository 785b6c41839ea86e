-- Demand 3: what the machine does under two profiles (`Stricter`), said of programs that meet demand 2, and of two proper histories.
-- Assumes nothing.
use mathlib.Core.List.{[]}
use Rattle.model.specs.Machine.{after}
use Rattle.demands.specs.History.{acts, calls}
use Rattle.demands.specs.Demand3.{Demand3Holds, HistoriesBeside}
use Rattle.demands.proofs.Demand2.{demand2}
use Rattle.demands.proofs.Program.{meets_says}
use Rattle.demands.proofs.Stricter.{beside, along}

pub demand3 : Demand3Holds
demand3 p q l x y m n d e i j rs us h c = rw (meets_says m p d i rs c, meets_says n q e j us c, h) (beside p q l (acts us) c)

pub histories_beside : HistoriesBeside
unfolding after
histories_beside p q l first second e =
    rw ((demand2 p first).said, (demand2 q second).said, e) (along p q l [] (calls second.turns))
