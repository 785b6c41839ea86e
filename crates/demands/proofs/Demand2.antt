-- Demand 2 on a box. Assumes nothing.
use Prim.Native.Nat.{ℕ, ◌≤◌}
use mathlib.Core.Bool.{true, not}
use mathlib.Core.Path.{◌≡◌, refl, ap, ◌∙◌}
use mathlib.Core.List.{List, [], ◌∷◌}
use native.Mathlib.Omega.{arith}
use lib.Dec.{leb}
use borrow.Author.Tests.{leb-true, not-false}
use Rattle.commands.specs.Answers.{◌when◌, first_of}
use Rattle.commands.proofs.Tests.{both, passed}
use Rattle.trace.specs.Rows.{joined, splits_after}
use Rattle.trace.specs.Tail.{tail_within}
use Rattle.trace.specs.Round.{content}
use Rattle.trace.specs.Ring.{empty_ring, good_capacity}
use Rattle.model.specs.declared.Profile.{Profile}
use Rattle.model.specs.Profiles.{good_profile}
use Rattle.model.specs.State.{fresh}
use Rattle.model.specs.Machine.{after}
use Rattle.model.proofs.Theorems.{always_good}
use Rattle.record.specs.Box.{state_of, box_of}
use Rattle.record.proofs.Carries.{carries}
use Rattle.calls.specs.Making.{fresh_box, make_of}
use Rattle.demands.specs.History.{Kept, History, at_first, calls}
use Rattle.demands.specs.Demand2.{Demand2Holds}
use Rattle.demands.proofs.Histories.{Grown, Holds, from, reads}

-- a box that was made: from a good profile, with a good capacity
pub record WasMade (p : Profile) (capacity : ℕ) : Type 0 where
  pub profile : good_profile p ≡ true
  pub room : good_capacity capacity ≡ true
  pub box : (make_of p capacity).made ≡ fresh_box p capacity

pub was_made : (p : Profile) (capacity : ℕ) → (make_of p capacity).answer ≡ 0 → WasMade p capacity
unfolding make_of
was_made p capacity e =
    let a = passed (not (good_profile p)) 11 (first_of (13 when not (good_capacity capacity) ∷ [])) (omega arith) e in
    let b = passed (not (good_capacity capacity)) 13 0 (omega arith) a.1 in
    record { profile = not-false (good_profile p) a.0; room = not-false (good_capacity capacity) b.0; box = rw e refl }

-- an empty ring holds the tail of no records
pub fresh_grown : (p : Profile) (capacity : ℕ) → WasMade p capacity → (bytes : List ℕ) → Grown p capacity (empty_ring capacity) fresh bytes []
unfolding content joined tail_within splits_after after
fresh_grown p capacity m bytes =
    let c = both (leb 16 capacity) (leb capacity 4096) m.room in
    let least : 16 ≤ capacity = leb-true 16 capacity c.0 in
    record {
      profile = m.profile;
      ring = record { least = least; greatest = leb-true capacity 4096 c.1; start_in = omega arith; used_in_lem = omega arith };
      same = refl;
      state = always_good p [] m.profile;
      whole = refl;
      tail = refl;
    }

-- what holds over a whole history
pub whole : (p : Profile) (h : History p) → Holds p h.capacity (at_first h) fresh [] h.turns
whole p h =
    let m = was_made p h.capacity h.taken in
    rw m.box (from (fresh_grown p h.capacity m h.bytes) h.turns (rw m.box at h.proper))

pub demand2 : Demand2Holds
unfolding box_of
demand2 p h =
    let w = whole p h in
    record {
      said = w.said;
      none = w.none;
      state = ap (λ (k : Kept). state_of k.box) w.left ∙ carries p w.ring (after p fresh (calls h.turns));
      ring = rw w.left w.grown.tail;
      reads = rw w.left (λ buf at out l. reads w.grown buf at l out);
    }
