-- A trip keeps the holds and the partial frame. Assumes nothing.
use Prim.Native.Nat.{ℕ}
use mathlib.Core.Bool.{true, not}
use mathlib.Core.Path.{◌≡◌, refl, ap, ◌∙◌}
use mathlib.Core.List.{List}
use lib.Dec.{eqb}
use lib.ListN.{length}
use borrow.Author.Tests.{eq-eqb, not-true}
use Rattle.trace.specs.declared.Part.{Part}
use Rattle.model.specs.State.{is_tripped}
use Rattle.model.specs.Machine.{Call.byte, Call.tick}
use Rattle.model.proofs.Tests.{not_both}
use Rattle.partial.specs.Partial.{frame_of}
use Rattle.partial.proofs.Carries.{frame_back}
use Rattle.record.specs.declared.Box.{Box}
use Rattle.record.specs.Box.{state_of, box_of}
use Rattle.record.proofs.Facts.{box_facts}
use Rattle.said.specs.Said.{said_of}
use Rattle.calls.specs.Calls.{step_filed}
use Rattle.sentences.specs.TripKeeps.{KeptByTick, KeptAt9, TripKeeps, EachTripKeeps}
use Rattle.sentences.proofs.Calls.{call_ways, refusal_passes}
use Rattle.sentences.proofs.Trips.{tick_trips, byte_trips, byte_9}

module _ (b : Box) (buf : List ℕ) (at : Part) (bytes : length b.partial.bytes ≡ 25) where
  trip_keeps : TripKeeps b buf at
  unfolding step_filed box_of state_of frame_of said_of
  trip_keeps =
      record {
        by_tick = λ u.
            call_ways b buf at (λ r. is_tripped r.called.next.core ≡ true → KeptByTick b r.called.next) tick
            (λ g ready t.
            let k = tick_trips b.profile (state_of b) u.0 t in
            record { partial = ap frame_of k.partial ∙ frame_back b.partial bytes (box_facts b g).unused; holda = k.holda; holdb = k.holdb })
            (λ t. not_both t u.0) u.1;
        by_byte = λ n u.
            call_ways b buf at (λ r. is_tripped r.called.next.core ≡ true → r.called.said.answer ≡ 9) (byte n)
            (λ g ready. byte_trips b.profile (state_of b) n u.0)
            (λ t. not_both t u.0) u.1;
        at_9 = λ n.
            call_ways b buf at (λ r. r.called.said.answer ≡ 9 → KeptAt9 b r.called.next) (byte n)
            (λ g ready h.
            let k = byte_9 b.profile (state_of b) n h in
            record { down = k.down; holda = k.holda; holdb = k.holdb; frame_is_gone = rw k.partial })
            (λ h. not_both (eq-eqb _ 9 h) (not-true _ (refusal_passes b buf at (λ a. not (eqb a 9)) refl refl)));
      }

pub each_trip_keeps : EachTripKeeps
each_trip_keeps = trip_keeps
