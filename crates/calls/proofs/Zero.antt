-- The record of a refused making. Assumes nothing.
use mathlib.Core.Path.{refl}
use Rattle.model.specs.Profiles.{good_profile}
use Rattle.record.specs.Box.{box_of, good_box}
use Rattle.calls.specs.Claims.{ZeroNotGood}

-- its shortest t1 is below 30
pub zero_not_good : ZeroNotGood
unfolding good_box good_profile box_of
zero_not_good = refl
