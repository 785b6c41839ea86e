use Rattle.std.proofs.Common.{◌≡◌, rules}
use Rattle.commands.specs.Ranges.{within}
use Rattle.model.specs.Profiles.{good_profile}
use Rattle.limits.proofs.good_profile.Goals as goal

pub returns : goal.returns
unfolding good_profile
returns c =
    let p = c.args.p in
    let long : c.contains.result ≡ within 30 p.shortest 10235 = search rules in
    let soon : c.contains-2.result ≡ within 1 p.watchdog 600000 = search rules in
    rw (c.good_limits.ensures, long, soon)
