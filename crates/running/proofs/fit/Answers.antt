use mathlib.Core.Path.{sym}
use Rattle.running.proofs.Fits.{fits_at}
use Rattle.running.proofs.fit.Goals as goal

pub returns : goal.returns
returns c =
    let a = c.args in
    rw (c.all_good.ensures, c.over_limits.ensures, c.update_timing.ensures) (sym (fits_at a.p a.v a.settings))
