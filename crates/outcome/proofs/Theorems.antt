-- The promises of `specs/Claims`. Assumes nothing.
use mathlib.Core.Bool.{true}
use mathlib.Core.Path.{◌≡◌, refl, sym}
use lib.Dec.{eqb}
use Rattle.model.specs.Machine.{Call}
use Rattle.model.proofs.GoodStates.{state_good}
use Rattle.model.proofs.Few.{step_releases, few}
use Rattle.model.proofs.Theorems.{step_keeps_good}
use Rattle.model.proofs.Tests.{either_way}
use Rattle.record.specs.declared.Box.{Box}
use Rattle.record.specs.Box.{state_of, good_box}
use Rattle.record.proofs.Facts.{box_facts}
use Rattle.record.proofs.Carries.{carries, carrier_good}
use Rattle.said.specs.Said.{said_of}
use Rattle.outcome.specs.Step.{carried, refusal, step_of}
use Rattle.outcome.specs.Claims.{NoneLost, StaysGood, stepped}
use Rattle.outcome.proofs.Calls.{good_taken, call_taken}
use Rattle.outcome.proofs.Lost.{row_back, placed}

pub none_lost : NoneLost
unfolding carried said_of
none_lost b ring c e =
    let g = box_facts b (good_taken b ring (sym e)) in
    let r = step_releases b.profile (state_of b) c g.state in
    let t = call_taken b ring c refl (sym e) in
    record {
      records = rw (← t) (row_back (stepped b c).records (few r));
      pulses = rw (← t) (placed r);
      state = rw (← t) (carries b.profile b.ring (stepped b c).state);
    }

-- a step leaves a good record good
taken_good : (b : Box) (c : Call) → good_box b ≡ true → good_box (carried b (stepped b c)).next ≡ true
unfolding carried
taken_good b c g =
    let f = box_facts b g in
    let s = step_keeps_good b.profile (state_of b) c f.profile_good (state_good f.state) in
    carrier_good b.profile b.ring (stepped b c).state f.profile_good f.ring_good s

pub stays_good : StaysGood
unfolding step_of
stays_good b ring c g = either_way (eqb (refusal b ring) 0) (λ e. rw e (taken_good b c g)) (λ e. rw e g)
