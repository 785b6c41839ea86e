-- Turns of a proper history, one after the other. Assumes nothing.
use Prim.Native.Nat.{ℕ, ◌<◌, ◌≤◌}
use mathlib.Core.Bool.{true, false}
use mathlib.Core.Path.{◌≡◌, refl, sym, ap, ap₂, ◌∙◌}
use mathlib.Core.List.{List, [], ◌∷◌, ◌++◌, map, append-nil, append_assoc}
use native.Mathlib.Omega.{arith}
use lib.Dec.{ltb}
use lib.ListN.{length, drop}
use borrow.Author.Tests.{ltb-true, ltb-false}
use Rattle.commands.specs.Ranges.{within}
use Rattle.trace.specs.declared.Part.{Part}
use Rattle.trace.specs.declared.Ring.{Ring}
use Rattle.trace.specs.declared.Record.{Record}
use Rattle.trace.specs.declared.Readout.{Readout}
use Rattle.trace.specs.Rows.{splits}
use Rattle.trace.specs.Tail.{tail_bytes}
use Rattle.trace.specs.Ring.{part, held_in, held, ready_answer}
use Rattle.trace.specs.Proper.{Lent}
use Rattle.trace.proofs.Places.{GoodRing, ring_good, placed_in}
use Rattle.trace.proofs.Outcomes.{ready_facts, read_16}
use Rattle.trace.proofs.Taken.{ready_whole, held_length, read_held}
use Rattle.model.specs.declared.Profile.{Profile}
use Rattle.model.specs.Profiles.{good_profile}
use Rattle.model.specs.State.{State}
use Rattle.model.specs.Good.{good_state}
use Rattle.model.specs.Arrival.{Result}
use Rattle.model.specs.Machine.{Call, outcome, step, run, after}
use Rattle.model.proofs.Tests.{either_way}
use Rattle.model.proofs.GoodStates.{state_facts}
use Rattle.model.proofs.Few.{step_releases}
use Rattle.model.proofs.Theorems.{step_keeps_good}
use Rattle.record.specs.Box.{box_of, good_box}
use Rattle.record.proofs.Carries.{carries, carrier_good}
use Rattle.said.specs.Said.{said_of}
use Rattle.outcome.proofs.Lost.{placed}
use Rattle.calls.specs.Filed.{Filed, filed, Answered}
use Rattle.calls.specs.Calls.{step_filed, call_of}
use Rattle.calls.specs.Readout.{readout_of, readout_bytes}
use Rattle.demands.specs.FreshBox.{trace}
use Rattle.demands.specs.History.{Turn, Turn.call, Turn.readout, Kept, next, last, Proper, calls, Spoken, spoken_by, spoken}
use Rattle.demands.specs.Copied.{Copied, copied, read_to}
use Rattle.demands.specs.Demand2.{documented, NoneRefused}
use Rattle.demands.proofs.Answers.{way, never}
use Rattle.demands.proofs.Filed.{ready_placed, filed_ready, filed_capacity, filed_tail}

-- a box that carries s, and its part's bytes
abbrev pub box : Profile → Ring → State → List ℕ → Kept
box p g s bytes = record { box = box_of p g s; bytes = bytes }

-- it is good, and its ring, of this capacity, holds the tail of the records xs
pub record Grown (p : Profile) (capacity : ℕ) (g : Ring) (s : State) (bytes : List ℕ) (xs : List Record) : Type 0 where
  pub profile : good_profile p ≡ true
  pub ring : GoodRing g
  pub same : g.capacity ≡ capacity
  pub state : good_state p s ≡ true
  pub whole : splits (held_in bytes g) ≡ true
  pub tail : held_in bytes g ≡ tail_bytes capacity xs

-- ---- one turn

-- a readout, by its two parts
reported : {r s : Readout} {l k : List ℕ} → r ≡ s → l ≡ k → ◌≡◌ {A = Copied} (record { report = r; output = l }) (record { report = s; output = k })
reported e f = ap₂ (λ (r : Readout) (l : List ℕ). record { report = r; output = l }) e f

module _ {p : Profile} {capacity : ℕ} {g : Ring} {s : State} {bytes : List ℕ} {xs : List Record} (f : Grown p capacity g s bytes xs)
    (buf : List ℕ) (at : Part) (l : Lent buf at (record { ring = g; bytes = bytes })) where
  good : good_box (box_of p g s) ≡ true
  good = carrier_good p g s f.profile (ring_good g f.ring) f.state

  pub ready : ready_answer buf at g ≡ 0
  ready =
      ready_whole buf at g (placed_in (length buf) at g f.ring l.0)
      (ap (λ (b : List ℕ). splits (held_in b g)) l.1 ∙ f.whole)

  has_tail : held buf at g ≡ tail_bytes capacity xs
  has_tail = ap (λ (b : List ℕ). held_in b g) l.1 ∙ f.tail

  -- a readout copies the tail, or finds no room for it
  pub reads : (out : List ℕ) → read_to (box_of p g s) buf at out ≡ copied (tail_bytes capacity xs) out
  unfolding readout_of readout_bytes box_of
  reads out =
      let n : ℕ = length (tail_bytes capacity xs) in
      let used : g.used ≡ n = sym (held_length buf at g (ready_placed buf at g ready)) ∙ ap length has_tail in
      either_way (ltb (length out) n)
      (λ e.
      let short : length out < g.used = omega (arith, used, ltb-true (length out) n e) in
      let y = read_16 buf at g out ready short in
      rw (good, e) (reported (sym y.0) (sym y.1)))
      (λ e.
      let fits : g.used ≤ length out = omega (arith, used, ltb-false (length out) n e) in
      let y = read_held buf at g out ready fits in
      rw (good, e)
      (reported (y.0 ∙ ap (λ (n : ℕ). record { answer = 0; used = n }) used)
      (y.1 ∙ ap₂ (λ (l : List ℕ) (n : ℕ). l ++ drop n out) has_tail used)))

  read_taken : (out : List ℕ) → within 12 (readout_of (box_of p g s) buf at (length out)).answer 14 ≡ false
  read_taken out =
      ap (λ (r : Copied). within 12 r.report.answer 14) (reads out)
      ∙ either_way (ltb (length out) (length (tail_bytes capacity xs))) (λ e. rw e refl) (λ e. rw e refl)

  module _ (c : Call) where
    abbrev x : Result
    x = step p s c

    abbrev after_it : Filed
    after_it = filed at g buf x.records

    -- a byte or a tick is taken
    pub gives : call_of (box_of p g s) buf at c ≡ step_filed (box_of p g s) buf at (step p s c)
    unfolding call_of box_of
    gives = rw (good, ready) (ap (λ (y : State). step_filed (box_of p g s) buf at (step p y c)) (carries p g s))

    -- what it says, in its two places, is what the machine says
    pub says : spoken_by (said_of (step p s c)) ≡ documented (outcome (step p s c))
    unfolding said_of
    says =
        ap (λ (l : List Record). record { answer = x.answer; reply = x.reply; pulses = l })
        (placed (step_releases p s c (state_facts f.state)))

    -- and the box has grown by its records
    pub grows : Grown p capacity after_it.ring x.state (part after_it.buf at) (xs ++ x.records)
    grows =
        let r = filed_ready at g buf x.records ready in
        record {
          profile = f.profile;
          ring = (ready_placed after_it.buf at after_it.ring r).ring;
          same = filed_capacity at g buf x.records ready ∙ f.same;
          state = step_keeps_good p s c f.profile f.state;
          whole = (ready_facts after_it.buf at after_it.ring r).1;
          tail = filed_tail at g buf xs x.records capacity ready f.same has_tail;
        }

    then : next (box p g s bytes) (call c buf at) ≡ box p after_it.ring x.state (part after_it.buf at)
    unfolding next step_filed box_of
    then = ap (λ (r : Answered). record { box = r.called.next; bytes = part r.buf at }) gives

-- ---- turn after turn

-- what holds of a box that carries s and has released xs, over the turns that follow
pub record Holds (p : Profile) (capacity : ℕ) (h : Kept) (s : State) (xs : List Record) (ts : List Turn) : Type 0 where
  pub said : spoken h ts ≡ map documented (run p s (calls ts))
  pub none : NoneRefused h ts
  pub ring : Ring
  pub bytes : List ℕ
  pub grown : Grown p capacity ring (after p s (calls ts)) bytes (xs ++ trace (run p s (calls ts)))
  pub left : last h ts ≡ box p ring (after p s (calls ts)) bytes

pub from : {p : Profile} {capacity : ℕ} {g : Ring} {s : State} {bytes : List ℕ} {xs : List Record} → Grown p capacity g s bytes xs
    → (ts : List Turn) → Proper (box p g s bytes) ts → Holds p capacity (box p g s bytes) s xs ts
unfolding spoken NoneRefused run after last next Proper box_of step_filed said_of
from {g = g} {bytes = bytes} f [] w =
    record { said = refl; none = tt; ring = g; bytes = bytes; grown = rw append-nil f; left = refl }
from f (readout out buf at ∷ ts) w =
    let h = from f ts w.1 in
    record { said = h.said; none = (read_taken f buf at w.0 out, h.none); ring = h.ring; bytes = h.bytes; grown = h.grown; left = h.left }
from {p = p} {capacity = capacity} {g = g} {s = s} {bytes = bytes} {xs = xs} f (call c buf at ∷ ts) w =
    let x : Result = step p s c in
    let a : Filed = filed at g buf x.records in
    let e = gives f buf at w.0 c in
    let h = from {g = a.ring} {s = x.state} {bytes = part a.buf at} {xs = xs ++ x.records} (grows f buf at w.0 c) ts (rw (then f buf at w.0 c) at w.1) in
    record {
      said = rw e (ap₂ (λ (o : Spoken) (os : List Spoken). o ∷ os) (says f buf at w.0 c) h.said);
      none = (ap (λ (r : Answered). within 12 r.called.said.answer 14) e ∙ never (way p s c), rw e h.none);
      ring = h.ring;
      bytes = h.bytes;
      grown = rw (← append_assoc xs x.records (trace (run p x.state (calls ts)))) h.grown;
      left = rw e h.left;
    }
