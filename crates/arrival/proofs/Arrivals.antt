-- What each kind of byte comes to on a good box. Assumes nothing.
use Prim.Native.Nat.{ℕ, ◌+◌, ◌*◌, ◌≤◌, ◌<◌}
use mathlib.Core.Bool.{Bool, true, false, cond}
use mathlib.Core.Path.{◌≡◌, refl, sym, ap, ◌∙◌}
use mathlib.Core.List.{List, [], ◌∷◌, ◌++◌}
use native.Mathlib.Omega.{arith}
use lib.Dec.{eqb}
use lib.ListN.{length, take, length-append}
use lib.Seq.{length-take-le}
use borrow.Author.Tests.{eq-eqb, eqb-true, ne_eqb, le-leb, lt-leb}
use Rattle.std.proofs.Common.{None, Some}
use Rattle.frames.specs.Layout.{ident_in}
use Rattle.model.specs.declared.Core.{Core}
use Rattle.model.specs.Channels.{channels}
use Rattle.model.specs.State.{Partial, by_state, is_running}
use Rattle.model.specs.Effects.{Done}
use Rattle.model.specs.Good.{good_partial}
use Rattle.model.specs.Arrival.{Arrival.alone, Arrival.growing, Arrival.whole, lengthened, opened_update, opened, followed, decided, judged, taken}
use Rattle.record.specs.declared.Box.{Box}
use Rattle.partial.specs.declared.PartialFrame.{PartialFrame}
use Rattle.partial.specs.Partial.{partial_of, frame_of}
use Rattle.record.specs.Box.{state_of, box_of, good_box}
use Rattle.partial.proofs.Facts.{OpenFrame, open_facts, size_most}
use Rattle.record.proofs.Facts.{box_facts}
use Rattle.model.proofs.Tests.{either_way}
use Rattle.model.proofs.States.{not_running, tripped_is}
use Rattle.partial.proofs.Carries.{frame_back}
use Rattle.record.proofs.Carries.{back}
use Rattle.said.specs.Said.{pulse_of, said_of}
use Rattle.outcome.specs.Step.{refused_step, carried}
use Rattle.decided.specs.ByValue.{by_value}
use Rattle.effects.specs.Deciding.{decide_frame, Whole}
use Rattle.effects.proofs.Judged.{whole_decided}
use Rattle.arrival.specs.Arriving.{open_in, grown, unfinished, settled}
use Rattle.arrival.proofs.Growing.{grown_frame, used_by, len_by}
use Rattle.arrival.proofs.Wholes.{finished_whole}

-- ---- any box

-- a decided command closes the frame
pub settled_as : (b : Box) (k answer : ℕ) (d : Done)
    → settled b (by_value (decided b.clock k answer d)) ≡ carried b (decided b.clock k answer d)
unfolding by_value carried decided box_of
settled_as b k answer d = refl

pub whole_settled : (b : Box) (s : List ℕ) → Whole s
    → settled b (by_value (decide_frame b.profile b.clock b.core s)) ≡ carried b (taken b.profile (state_of b) (whole s))
unfolding judged taken state_of
whole_settled b s w = rw (whole_decided b.profile b.clock b.core s w) (settled_as b _ _ _)

-- an Update's first byte alone: 10 when tripped, else 6
pub tripped_answer : (k answer : ℕ) → 2 ≤ k → answer ≡ 10 → answer ≡ cond (by_state k false false true) 10 6
tripped_answer k answer t e = rw (sym (tripped_is k) ∙ le-leb 2 k t) e

pub untripped_answer : (k answer : ℕ) → k < 2 → answer ≡ 6 → answer ≡ cond (by_state k false false true) 10 6
untripped_answer k answer t e = rw (sym (tripped_is k) ∙ lt-leb 2 k t) e

-- 1: the byte is kept
pub kept_as : (b : Box) (q : Partial) → unfinished b (frame_of q) ≡ carried b (taken b.profile (state_of b) (growing q))
unfolding taken carried said_of pulse_of box_of state_of
kept_as b q = refl

-- an Update's first byte, while a list runs and while none does
module _ (b : Box) (n : ℕ) where
  abbrev begun : Partial
  begun = record { bytes = n ∷ []; size = 1 + 3 * channels b.core.run.list.stim }

  pub update_opens : b.core.state ≡ 1 → unfinished b (frame_of begun) ≡ carried b (taken b.profile (state_of b) (opened_update b.core n))
  update_opens e =
      let runs : is_running b.core ≡ true = rw e in
      kept_as b begun ∙ ap (λ (x : Bool). carried b (taken b.profile (state_of b) (cond x (growing begun) alone))) (sym runs)

  pub update_alone : (b.core.state ≡ 1 → ⊥) → opened_update b.core n ≡ alone
  update_alone e = rw (not_running b.core.state false true e)

-- a whole frame in its record
pub ready : (f : PartialFrame) (q : Partial) → f ≡ frame_of q → length q.bytes ≤ 25 → Whole q.bytes
    → (f.len ≤ 25) × Whole (take f.len f.bytes)
ready f q e h w = (rw (len_by f q e) h, rw (used_by f q e) w)

-- what a high byte opens, by its Ident
module _ (m : Core) (n : ℕ) where
  pub opens_update : ident_in (n ∷ []) ≡ 1 → opened m n ≡ opened_update m n
  unfolding opened
  opens_update e = rw e

  pub opens_init : ident_in (n ∷ []) ≡ 0 → opened m n ≡ growing (record { bytes = n ∷ []; size = 6 })
  unfolding opened lengthened
  opens_init e = rw e

  pub opens_stop : ident_in (n ∷ []) ≡ 2 → opened m n ≡ whole (n ∷ [])
  unfolding opened lengthened
  opens_stop e = rw e

  pub opens_single : ident_in (n ∷ []) ≡ 3 → opened m n ≡ growing (record { bytes = n ∷ []; size = 4 })
  unfolding opened lengthened
  opens_single e = rw e

-- ---- a low byte on a good box

-- the frame with one byte more
abbrev pub longer : Box → ℕ → Partial
longer b n = record { bytes = take b.partial.len b.partial.bytes ++ n ∷ []; size = b.partial.kept }

-- an open frame that a low byte follows: it grows in its record, and is whole by this byte or goes on
pub record Followed (b : Box) (n : ℕ) : Type 0 where
  pub room : b.partial.len < 25
  pub fits : length (longer b n).bytes ≤ 25
  pub grows : grown b.partial n ≡ frame_of (longer b n)
  pub finishes : n < 128 → b.partial.len + 1 ≡ b.partial.kept
      → (followed (partial_of b.partial) n ≡ whole (longer b n).bytes) × Whole (longer b n).bytes
  pub goes_on_lem : (b.partial.len + 1 ≡ b.partial.kept → ⊥) → followed (partial_of b.partial) n ≡ growing (longer b n)

-- the frame that is open is the box's own
pub found : (q : PartialFrame) {f : PartialFrame} → Some f ≡ open_in q → (q.len ≡ 0 → ⊥) × (q ≡ f)
found q {f} e =
    either_way (eqb q.len 0)
    (λ t. let h : Some f ≡ None = rw t at e in cc)
    (λ u. let h : Some f ≡ Some q = rw u at e in (λ z. let t = eq-eqb q.len 0 z in cc, cc))

pub none_found : (q : PartialFrame) → None ≡ open_in q → q.len ≡ 0
none_found q e = either_way (eqb q.len 0) (λ t. eqb-true q.len 0 t) (λ f. let h : None ≡ Some q = rw f at e in cc)

module _ (b : Box) (l : length b.partial.bytes ≡ 25) (g : good_box b ≡ true) (n : ℕ) where
  in_use : length (take b.partial.len b.partial.bytes) ≡ b.partial.len
  in_use = length-take-le _ b.partial.bytes (omega (arith, l, (box_facts b g).len))

  good_partial_lem : good_partial b.core b.partial.kept (take b.partial.len b.partial.bytes) ≡ true
  unfolding state_of
  good_partial_lem = (box_facts b g).state.partial

  -- no frame is open: a stray
  pub strays : b.partial.len ≡ 0 → refused_step 2 b ≡ carried b (taken b.profile (state_of b) (followed (partial_of b.partial) n))
  unfolding followed taken carried said_of pulse_of good_partial state_of
  strays e =
      let none : eqb b.partial.kept 0 ≡ true = rw e at good_partial_lem in
      rw (none, back b l g)

  module _ (o : b.partial.len ≡ 0 → ⊥) where
    is_open : OpenFrame b.core b.partial.kept (take b.partial.len b.partial.bytes)
    is_open = open_facts b.core b.partial.kept _ good_partial_lem (omega (arith, in_use, o))

    has_room : b.partial.len < 25
    has_room = omega (arith, is_open.shorter, in_use, size_most b.core _ b.partial.kept is_open.sized)

    more : length (longer b n).bytes ≡ b.partial.len + 1
    more = length-append (take b.partial.len b.partial.bytes) (n ∷ []) ∙ ap (λ (k : ℕ). k + 1) in_use

    grows_to : grown b.partial n ≡ frame_of (longer b n)
    grows_to =
        ap (λ (q : PartialFrame). grown q n) (sym (frame_back b.partial l (box_facts b g).unused))
        ∙ grown_frame (partial_of b.partial) n (omega (arith, in_use, has_room))

    follows : followed (partial_of b.partial) n
        ≡ cond (eqb (b.partial.len + 1) b.partial.kept) (whole (longer b n).bytes) (growing (longer b n))
    unfolding followed lengthened
    follows = rw (ne_eqb b.partial.kept 0 (λ e. omega (arith, is_open.shorter, e)), more)

    pub followed_by : Followed b n
    followed_by =
        record {
          room = has_room;
          fits = omega (arith, more, has_room);
          grows = grows_to;
          finishes = λ h e. (
            follows ∙ rw (eq-eqb (b.partial.len + 1) b.partial.kept e),
            finished_whole b.core b.partial.kept _ n is_open (omega (arith, in_use, o)) h (omega (arith, in_use, e)),
          );
          goes_on_lem = λ e. follows ∙ rw (ne_eqb (b.partial.len + 1) b.partial.kept e);
        }
