-- The library meets demand 2 however it is used, and it can be used. Assumes nothing.
use Prim.Native.Nat.{ℕ, ◌+◌}
use mathlib.Core.Bool.{false}
use mathlib.Core.Path.{◌≡◌, refl, ap, subst, ◌∙◌}
use mathlib.Core.List.{List, [], ◌∷◌}
use native.Mathlib.Omega.{arith}
use lib.Dec.{eqb}
use lib.ListN.{replicate, length, length-replicate}
use borrow.Author.Tests.{eqb-true, le-leb, eq-eqb}
use Rattle.trace.specs.declared.Part.{Part}
use Rattle.trace.specs.Ring.{good_part, part}
use Rattle.model.specs.declared.Profile.{Profile}
use Rattle.model.specs.State.{fresh}
use Rattle.model.specs.Machine.{Call, outcome, step, after}
use Rattle.model.proofs.Tests.{◌and◌, either_way}
use Rattle.record.specs.Box.{box_of}
use Rattle.calls.specs.Making.{zero_box, make_answer, make_of}
use Rattle.calls.specs.Filed.{Answered}
use Rattle.calls.specs.Calls.{turned_away, step_filed, call_of}
use Rattle.calls.specs.Readout.{readout_of, readout_bytes}
use Rattle.calls.proofs.Zero.{zero_not_good}
use Rattle.demands.specs.History.{Turn, Turn.call, Turn.readout, Kept, next, last, LentTo, History, Request, acts, spoken_by}
use Rattle.demands.specs.OneBuffer.{Bench, bench_after, turns_of, bench_of}
use Rattle.demands.specs.Copied.{copied}
use Rattle.demands.specs.Demand2.{documented, tail_of}
use Rattle.demands.specs.Use.{Used, reached, Use, said_next, read_next, program_of, LibraryMeets}
use Rattle.demands.proofs.Histories.{gives, says}
use Rattle.demands.proofs.Demand2.{whole, demand2}
use Rattle.demands.proofs.OneBuffer.{same_requests, any_history}

-- ---- a box was made

module _ {p : Profile} {capacity : ℕ} {rs : List Request} (v : Used p capacity rs) (e : make_answer p capacity ≡ 0) where
  as_history : History p
  unfolding make_of
  as_history = record { capacity = capacity; bytes = v.bytes; turns = v.turns; taken = e; proper = (v.proper e).0 }

  made_says : (c : Call) → said_next v c ≡ documented (outcome (step p (after p fresh (acts rs)) c))
  unfolding as_history box_of step_filed
  made_says c =
      let w = whole p as_history in
      let l = subst (λ (k : Kept). LentTo k v.buf v.at) w.left (v.proper e).1 in
      ap (λ (k : Kept). spoken_by (call_of k.box v.buf v.at c).called.said) w.left
      ∙ ap (λ (r : Answered). spoken_by r.called.said) (gives w.grown v.buf v.at l c)
      ∙ says w.grown v.buf v.at l c
      ∙ ap (λ (us : List Request). documented (outcome (step p (after p fresh (acts us)) c))) v.same

  made_reads : (out : List ℕ) → read_next v out ≡ copied (tail_of p capacity (acts rs)) out
  unfolding as_history
  made_reads out =
      (demand2 p as_history).reads v.buf v.at out (v.proper e).1
      ∙ ap (λ (us : List Request). copied (tail_of p capacity (acts us)) out) v.same

-- ---- none was

zero_12 : (buf : List ℕ) (at : Part) (c : Call) → call_of zero_box buf at c ≡ turned_away zero_box buf 12
unfolding call_of
zero_12 buf at c = rw zero_not_good

zero_stays : (h : Kept) (ts : List Turn) → h.box ≡ zero_box → (last h ts).box ≡ zero_box
unfolding last next
zero_stays h [] e = e
zero_stays h (call c buf at ∷ ts) e = zero_stays (next h (call c buf at)) ts (rw e (ap (λ (r : Answered). r.called.next) (zero_12 buf at c)))
zero_stays h (readout out buf at ∷ ts) e = zero_stays h ts e

module _ {p : Profile} {capacity : ℕ} {rs : List Request} (v : Used p capacity rs) (e : eqb (make_answer p capacity) 0 ≡ false) where
  unmade : (reached v).box ≡ zero_box
  unfolding make_of
  unmade = zero_stays _ v.turns (rw e)

  unmade_says : (c : Call) → said_next v c ≡ record { answer = 12; reply = 0; pulses = [] }
  unmade_says c = rw (unmade, zero_12) refl

  unmade_reads : (out : List ℕ) → read_next v out ≡ record { report = record { answer = 12; used = 0 }; output = out }
  unfolding readout_of readout_bytes
  unmade_reads out = rw (unmade, zero_not_good) refl

-- ---- either way

made_answers : (p : Profile) (capacity : ℕ) → (make_of p capacity).answer ≡ make_answer p capacity
unfolding make_of
made_answers p capacity = refl

pub library_meets : LibraryMeets
unfolding program_of
library_meets u =
    record {
      made = made_answers;
      said = λ p capacity rs c.
          let v = u.calling p capacity rs c in
          either_way (eqb (make_answer p capacity) 0) (λ e. rw e (made_says v (eqb-true _ _ e) c)) (λ e. rw e (unmade_says v e c));
      read = λ p capacity rs out.
          let v = u.reading p capacity rs out in
          either_way (eqb (make_answer p capacity) 0) (λ e. rw e (made_reads v (eqb-true _ _ e) out)) (λ e. rw e (unmade_reads v e out));
    }

-- ---- a use: in one buffer, which is the ring's part

used : (p : Profile) (capacity : ℕ) (rs : List Request) → Used p capacity rs
unfolding make_of good_part
used p capacity rs =
    let buf : List ℕ = replicate capacity 0 in
    let at : Part = record { offset = 0; size = capacity } in
    let k : Bench = bench_of p capacity buf in
    record {
      bytes = part buf at;
      turns = turns_of at k rs;
      same = same_requests at k rs;
      buf = (bench_after at k (acts rs)).buf;
      at = at;
      proper = λ e.
          let room = le-leb (0 + capacity) (length buf) (omega (arith, length-replicate {A = ℕ} capacity 0)) in
          let h = any_history p capacity buf at rs e (room and eq-eqb capacity capacity refl) in
          (h.proper, h.lent);
    }

pub a_use : Use
a_use = record { calling = λ p capacity rs c. used p capacity rs; reading = λ p capacity rs out. used p capacity rs }
