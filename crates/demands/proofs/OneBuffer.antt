-- Calls with one buffer are a proper history. Assumes nothing.
use Prim.Native.Nat.{ℕ}
use mathlib.Core.Path.{◌≡◌, refl, ap, subst⁻¹}
use mathlib.Core.List.{List, [], ◌∷◌, ◌++◌}
use Rattle.trace.specs.declared.Part.{Part}
use Rattle.trace.specs.declared.Ring.{Ring}
use Rattle.trace.specs.declared.Record.{Record}
use Rattle.trace.specs.Ring.{part}
use Rattle.trace.specs.Proper.{Lent}
use Rattle.trace.proofs.Places.{part_good}
use Rattle.model.specs.declared.Profile.{Profile}
use Rattle.model.specs.State.{State}
use Rattle.model.specs.Arrival.{Result}
use Rattle.model.specs.Machine.{step}
use Rattle.record.specs.Box.{box_of}
use Rattle.calls.specs.Filed.{Filed, filed, Answered}
use Rattle.calls.specs.Calls.{step_filed}
use Rattle.demands.specs.History.{Kept, next, last, LentTo, Proper, Request, Request.act, Request.show, requests, acts}
use Rattle.demands.specs.OneBuffer.{Bench, onward, bench_after, turns_of, bench_of, AnyHistory}
use Rattle.demands.proofs.Filed.{filed_ready, ready_placed}
use Rattle.demands.proofs.Histories.{Grown, ready, gives, grows}
use Rattle.demands.proofs.Demand2.{was_made, fresh_grown}

-- requests in one buffer are proper, and so is what they leave of it
abbrev StaysProper : Part → Bench → List Request → Type 0
StaysProper at k rs =
    let h : Kept = record { box = k.box; bytes = part k.buf at } in
    Proper h (turns_of at k rs) × LentTo (last h (turns_of at k rs)) (bench_after at k (acts rs)).buf at

stays_proper : {p : Profile} {capacity : ℕ} (at : Part) {g : Ring} {s : State} (buf : List ℕ) {xs : List Record} (rs : List Request)
    → Grown p capacity g s (part buf at) xs → Lent buf at (record { ring = g; bytes = part buf at })
    → StaysProper at (record { box = box_of p g s; buf = buf }) rs
unfolding Proper last turns_of onward bench_after next step_filed box_of
stays_proper at buf [] f l = (tt, l)
stays_proper at buf (show out ∷ rs) f l = let w = stays_proper at buf rs f l in ((l, w.0), w.1)
stays_proper {p = p} {capacity = capacity} at {g = g} {s = s} buf {xs = xs} (act c ∷ rs) f l =
    let x : Result = step p s c in
    let a : Filed = filed at g buf x.records in
    let r = filed_ready at g buf x.records (ready f buf at l) in
    let w = subst⁻¹ (λ (x : Answered). StaysProper at (record { box = x.called.next; buf = x.buf }) rs) (gives f buf at l c)
    (stays_proper at {g = a.ring} {s = x.state} a.buf {xs = xs ++ x.records} rs (grows f buf at l c) (part_good _ at _ (ready_placed _ at _ r), refl)) in
    ((l, w.0), w.1)

pub same_requests : (at : Part) (k : Bench) (rs : List Request) → requests (turns_of at k rs) ≡ rs
unfolding turns_of
same_requests at k [] = refl
same_requests at k (act c ∷ rs) = ap (λ (us : List Request). act c ∷ us) (same_requests at (onward at k c) rs)
same_requests at k (show out ∷ rs) = ap (λ (us : List Request). show out ∷ us) (same_requests at k rs)

pub any_history : AnyHistory
unfolding box_of
any_history p capacity buf at rs e l =
    let m = was_made p capacity e in
    let w : StaysProper at (bench_of p capacity buf) rs = rw m.box (stays_proper at buf rs (fresh_grown p capacity m (part buf at)) (l, refl)) in
    record { same = same_requests at _ rs; proper = w.0; lent = w.1 }
