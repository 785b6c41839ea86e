use Rattle.running.proofs.Waits.{run_waits}
use Rattle.running.proofs.good_run.Goals as goal

pub returns : goal.returns
returns c =
    let a = c.args in
    rw (c.main_period-period.ensures, c.good_list.ensures, c.init_timing.ensures, c.fit.ensures)
    (run_waits a.p a.clock a.r c.good_waiting.result c.good_waiting.ensures)
