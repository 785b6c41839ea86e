-- A tripped box finishes an Update that is open. Assumes nothing.
use Prim.Native.Nat.{ℕ, zero, suc, ◌+◌, ◌-◌, ◌<◌}
use mathlib.Core.Bool.{true}
use mathlib.Core.Path.{◌≡◌, refl}
use mathlib.Core.List.{List, [], ◌∷◌, ◌++◌}
use native.Mathlib.Omega.{arith}
use lib.Dec.{eqb}
use lib.ListN.{length, length-append}
use borrow.Author.Tests.{eq-eqb, ne_eqb, not-true}
use Rattle.bits.specs.High.{high}
use Rattle.commands.specs.declared.Setting.{Setting}
use Rattle.commands.specs.Answers.{is_one_of}
use Rattle.commands.specs.Commands.{Command.update, check_of}
use Rattle.frames.specs.Layout.{ident_in, check_in}
use Rattle.frames.proofs.Idents.{update_here}
use Rattle.model.specs.declared.Profile.{Profile}
use Rattle.model.specs.declared.Core.{Core}
use Rattle.model.specs.State.{Partial, State, is_tripped}
use Rattle.model.specs.Judgement.{refusals, judge}
use Rattle.model.specs.Effects.{accept}
use Rattle.model.specs.Arrival.{Result, lengthened, followed, arrive, decided, judged, taken, byte_step}
use Rattle.model.specs.Machine.{Call, Call.byte, Call.tick, step}
use Rattle.model.specs.Good.{good_state}
use Rattle.model.proofs.Tests.{either_way}
use Rattle.model.proofs.Cases.{carry_cases, tick_cases}
use Rattle.model.proofs.GoodStates.{state_facts}
use Rattle.model.proofs.Quiet.{tripped_tick}
use Rattle.partial.proofs.Facts.{open_facts}
use Rattle.sentences.specs.LeftOpen.{UpdateOpen, to_come, low_or_tick, LowOrTicks, finishing, less_by, Finishes, FinishesTripped, StillFinishes}
use Rattle.sentences.proofs.Trips.{tick_trips}

-- no frame is open, or an Update of which so many bytes are to come
abbrev Open : ℕ → Partial → Type 0
Open zero q = q.size ≡ 0
Open (suc left) q = (ident_in q.bytes ≡ 1) × (length q.bytes + suc left ≡ q.size)

-- bytes that begin as an Update's go on so
ident_append : (bytes : List ℕ) (n : ℕ) → ident_in bytes ≡ 1 → ident_in (bytes ++ n ∷ []) ≡ 1
ident_append [] n e = absurd (omega arith)
ident_append (b ∷ bytes) n e = e

-- what a call gives: an answer of these, a box that is tripped still, and so many bytes to come
record Goes (allowed : List ℕ) (left : ℕ) (r : Result) : Type 0 where
  answered : is_one_of allowed r.answer ≡ true
  down : is_tripped r.state.core ≡ true
  open_still : Open left r.state.partial

module _ (p : Profile) (clock : ℕ) (m : Core) (t : is_tripped m ≡ true) where
  -- a finished Update
  judge_update : (n k count : ℕ) (entries : List Setting) → is_one_of (finishing (byte n) 1) (judge p m k (update count entries)) ≡ true
  unfolding judge refusals
  judge_update n k count entries = either_way (eqb k (check_of (update count entries))) (λ e. rw (e, t)) (λ e. rw e)

  update_done : (n k count : ℕ) (entries : List Setting) → Goes (finishing (byte n) 1) 0 (judged p clock m k (update count entries))
  unfolding judged decided accept
  update_done n k count entries =
      let c = update count entries in
      record {
        answered = judge_update n k count entries;
        down = carry_cases (λ d. is_tripped d.core ≡ true) clock m c (judge p m k c) (λ e. t) refl t t;
        open_still = refl;
      }

  -- a low byte
  follows : (left : ℕ) (q : Partial) (n : ℕ) → Open left q
      → Goes (finishing (byte n) left) (less_by (byte n) left) (taken p (record { clock = clock; partial = q; core = m }) (followed q n))
  unfolding followed taken lengthened
  follows zero q n o = rw o (record { answered = refl; down = t; open_still = refl })
  follows (suc zero) q n o =
      let bytes = q.bytes ++ n ∷ [] in
      let last : length bytes ≡ q.size = simp length-append (omega (arith, o.1)) in
      rw (ne_eqb q.size 0 (λ e. omega (arith, o.1)), eq-eqb _ _ last, update_here bytes _ (ident_append q.bytes n o.0))
      (update_done n (check_in bytes) _ _)
  follows (suc (suc left)) q n o =
      let bytes = q.bytes ++ n ∷ [] in
      let longer : length bytes + suc left ≡ q.size = simp length-append (omega (arith, o.1)) in
      rw (ne_eqb q.size 0 (λ e. omega (arith, o.1)), ne_eqb (length bytes) q.size (λ e. omega (arith, longer)))
      (record { answered = refl; down = t; open_still = (ident_append q.bytes n o.0, longer) })

-- a low byte or a tick
goes_on_lem : (p : Profile) (s : State) (c : Call) (left : ℕ) → is_tripped s.core ≡ true → Open left s.partial → low_or_tick c ≡ true
    → Goes (finishing c left) (less_by c left) (step p s c)
unfolding step byte_step arrive
goes_on_lem p s (byte n) left t o l = rw (not-true (high n) l) (follows p s.clock s.core t left s.partial n o)
goes_on_lem p s tick left t o l =
    record {
      answered = tick_cases (λ r. is_one_of (0 ∷ 15 ∷ []) r.answer ≡ true) p s refl (λ moves. refl);
      down = tripped_tick p s t;
      open_still = tick_cases (λ r. Open left r.state.partial) p s o (λ moves. o);
    }

-- call after call
finishes_from : (p : Profile) (cs : List Call) (s : State) (left : ℕ) → is_tripped s.core ≡ true → Open left s.partial → LowOrTicks cs
    → Finishes p s left cs
unfolding Finishes
finishes_from p [] s left t o l = t
finishes_from p (c ∷ cs) s left t o l =
    let g = goes_on_lem p s c left t o l.0 in
    (t, g.answered, finishes_from p cs (step p s c).state (less_by c left) g.down g.open_still l.1)

-- of an Update that is open in a good state, bytes are to come
open_update : (p : Profile) (s : State) → good_state p s ≡ true → UpdateOpen s → (0 < to_come s) × Open (to_come s) s.partial
open_update p s g u =
    let q = s.partial in
    let some : 0 < length q.bytes = first_there q.bytes u in
    let short = (open_facts s.core q.size q.bytes (state_facts g).partial some).shorter in
    let left : to_come s ≡ suc (q.size - length q.bytes - 1) = omega arith in
    (omega arith, rw left (u, omega arith))
  where
    first_there : (bytes : List ℕ) → ident_in bytes ≡ 1 → 0 < length bytes
    first_there [] e = absurd (omega arith)
    first_there (b ∷ bytes) e = omega arith

pub finishes_tripped : FinishesTripped
finishes_tripped p s g t u =
    let o = open_update p s g u in
    (o.0, λ cs l. finishes_from p cs s (to_come s) t o.1 l)

pub still_finishes : StillFinishes
still_finishes p s g u not_yet t =
    let o = open_update p s g u in
    let k = tick_trips p s not_yet t in
    record {
      kept_open = k.partial;
      some_left = o.0;
      finishes = λ cs l. finishes_from p cs (step p s tick).state (to_come s) t (rw k.partial o.1) l;
    }
