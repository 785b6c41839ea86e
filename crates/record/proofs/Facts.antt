-- What is known of a good box record. Assumes nothing.
use Prim.Native.Nat.{◌≤◌}
use mathlib.Core.Bool.{true, ◌&&◌}
use mathlib.Core.Path.{◌≡◌, sym, ◌∙◌}
use mathlib.Core.List.{[], ◌∷◌}
use lib.Dec.{leb}
use lib.ListN.{drop}
use borrow.Author.Tests.{leb-true}
use Rattle.commands.specs.Ranges.{within}
use Rattle.commands.proofs.Tests.{both}
use Rattle.trace.specs.Ring.{good_ring}
use Rattle.model.specs.declared.Profile.{Profile}
use Rattle.model.specs.Below.{all_below}
use Rattle.model.specs.Profiles.{good_limits, good_profile}
use Rattle.model.specs.Good.{good_state}
use Rattle.model.proofs.Tests.{each}
use Rattle.model.proofs.GoodStates.{GoodState, state_facts}
use Rattle.partial.specs.Partial.{zeros, unused_zero}
use Rattle.record.specs.declared.Box.{Box}
use Rattle.record.specs.Box.{state_of, good_box}
use Rattle.record.proofs.Joins.{box_parts}

-- each number is in its range, at most 25 bytes are in use, and the others are zero
pub record GoodBox (b : Box) : Type 0 where
  pub profile_good : good_profile b.profile ≡ true
  pub ring_good : good_ring b.ring ≡ true
  pub len : b.partial.len ≤ 25
  pub unused : unused_zero b.partial ≡ true
  pub state : GoodState b.profile (state_of b)
  pub watchdog : b.profile.watchdog ≤ 600000

-- the watchdog is 1 to 600,000
watchdog_most : (p : Profile) → good_profile p ≡ true → p.watchdog ≤ 600000
unfolding good_profile
watchdog_most p g =
    let t = both (all_below 8 (good_limits p) && leb p.charge 63500 && within 30 p.shortest 10235) (within 1 p.watchdog 600000) g in
    leb-true p.watchdog 600000 (both (leb 1 p.watchdog) (leb p.watchdog 600000) t.1).1

pub box_facts : (b : Box) → good_box b ≡ true → GoodBox b
unfolding unused_zero
box_facts b g =
    let q = b.partial in
    let t =
    each (good_profile b.profile) (good_ring b.ring ∷ unused_zero q ∷ good_state b.profile (state_of b) ∷ []) (sym (box_parts b) ∙ g) in
    record {
      profile_good = t 0;
      ring_good = t 1;
      len = leb-true q.len 25 (both (leb q.len 25) (zeros (drop q.len q.bytes)) (t 2)).0;
      unused = t 2;
      state = state_facts (t 3);
      watchdog = watchdog_most b.profile (t 0);
    }
