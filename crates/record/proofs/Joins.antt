-- How the tests of a box record join. Assumes nothing.
use Prim.Native.Nat.{◌≤◌}
use mathlib.Core.Bool.{Bool, ◌&&◌, and_assoc}
use mathlib.Core.Path.{◌≡◌, sym, ◌∙◌}
use lib.ListN.{take}
use borrow.Author.Tests.{le-leb}
use Rattle.trace.specs.Ring.{good_ring}
use Rattle.model.specs.Profiles.{good_profile}
use Rattle.model.specs.Ticks.{last_clock}
use Rattle.model.specs.Good.{good_partial, good_state}
use Rattle.model.proofs.Tests.{crossed}
use Rattle.running.specs.Core.{good_core}
use Rattle.running.proofs.Parts.{state_parts}
use Rattle.partial.specs.Partial.{unused_zero}
use Rattle.record.specs.declared.Box.{Box}
use Rattle.record.specs.Box.{state_of, good_box}

-- the record's own numbers are in their ranges, and the state that it carries is good
pub box_parts : (b : Box) → good_box b ≡ good_profile b.profile && good_ring b.ring && unused_zero b.partial && good_state b.profile (state_of b)
unfolding good_box good_state
box_parts b =
    let profile : Bool = good_profile b.profile in
    let ring : Bool = good_ring b.ring in
    let unused : Bool = unused_zero b.partial in
    let state : Bool = good_state b.profile (state_of b) in
    sym (and_assoc (profile && ring) unused state ∙ and_assoc profile ring (unused && state))

-- as the code asks them: the core by parts, and the bytes not in use together with those in use
pub box_joined : (b : Box) → b.clock ≤ last_clock
    → good_box b
    ≡ good_profile b.profile && good_ring b.ring && good_core b.profile b.clock b.core
    && (unused_zero b.partial && good_partial b.core b.partial.kept (take b.partial.len b.partial.bytes))
unfolding state_of
box_joined b h =
    box_parts b
    ∙ rw (state_parts b.profile (state_of b), le-leb b.clock last_clock h)
    (crossed (good_profile b.profile && good_ring b.ring) (unused_zero b.partial) (good_core b.profile b.clock b.core)
    (good_partial b.core b.partial.kept (take b.partial.len b.partial.bytes)))
