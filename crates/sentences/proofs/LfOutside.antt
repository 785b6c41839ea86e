-- A low frequency bit outside Channel_Stim is kept and has no effect. Assumes nothing.
use Prim.Native.Nat.{ℕ}
use mathlib.Core.Bool.{true}
use mathlib.Core.Path.{◌≡◌, refl, sym}
use mathlib.Core.List.{List, [], ◌∷◌}
use native.Mathlib.Omega.{arith}
use borrow.Author.Tests.{le-leb, lt-leb}
use Rattle.bits.specs.Fields.{field}
use Rattle.commands.specs.declared.Init.{Init}
use Rattle.commands.specs.Commands.{Command.init, check_of, good}
use Rattle.frames.specs.Layout.{check_in}
use Rattle.frames.specs.Bytes.{init_number, frame}
use Rattle.model.specs.declared.Profile.{Profile}
use Rattle.model.specs.declared.Core.{Core}
use Rattle.model.specs.State.{no_frame, State}
use Rattle.model.specs.Judgement.{judge}
use Rattle.model.specs.Effects.{Done, accept, carry}
use Rattle.model.specs.Arrival.{decided, judged, taken, byte_step}
use Rattle.model.specs.Machine.{Call, step, run}
use Rattle.demands.specs.RoundTrips.{Held}
use Rattle.demands.proofs.ReadsBack.{init_number_lem, init_there}
use Rattle.sentences.specs.LfOutside.{ListKept, with_lf, SameInside, LfApart, LfApart.lf_apart, InitFrame, SameCalls, SameCalls.no_calls, SameCalls.same_call, judged_init, NoEffect}
use Rattle.sentences.proofs.LfSteps.{Alike, Alike.alike, init_judged, init_alike}
use Rattle.sentences.proofs.LfRuns.{at, same_calls_on}

pub list_kept : ListKept
unfolding step byte_step taken judged decided carry accept
list_kept p s n bytes v e f z =
    let y : judge p s.core (check_in bytes) (init v) ≡ 0 = rw (e, f) at z in
    rw (e, f, y)

-- two Inits that differ in such bits
apart : {d e : Done} (clock : ℕ) → Alike d e → LfApart (at clock no_frame d.core) (at clock no_frame e.core)
apart clock (alike d lf h) = lf_apart (at clock no_frame d.core) lf h

judged_alike : (p : Profile) (clock : ℕ) (m : Core) (v : Init) (lf : ℕ) → SameInside v lf
    → ((judged_init p clock m v).answer ≡ (judged_init p clock m (with_lf v lf)).answer)
    × LfApart (judged_init p clock m v).state (judged_init p clock m (with_lf v lf)).state
unfolding judged decided
judged_alike p clock m v lf inside =
    let own : ℕ = m.run.list.lf in
    let j = init_judged m own (λ i h. refl) p v lf in
    (sym j, rw j (apart clock (init_alike m own (λ i h. refl) clock v lf inside (judge p m (check_of (init v)) (init v)))))

-- any calls are the same
same_row : (cs : List Call) → SameCalls cs cs
same_row [] = no_calls
same_row (c ∷ cs) = same_call c (same_row cs)

frames_alike : (p : Profile) (s t : State) → LfApart s t → (cs ds : List Call) → SameCalls cs ds → run p s cs ≡ run p t ds
frames_alike p s t (lf_apart u lf h) cs ds c = same_calls_on p c u.partial u.clock u.core lf h

-- the frame of a good Init
frames_there : (v : Init) → Held (init v) → good (init v) ≡ true → InitFrame (frame (init v)) v
frames_there v held g =
    let w = init_number (check_of (init v)) v in
    let h = init_there w v [] (init_number_lem v held g) in
    record {
      six = refl;
      first_is_high = le-leb 128 (field w 35 8) h.first;
      others_low = rw (
        lt-leb 128 (field w 28 7) (omega arith),
        lt-leb 128 (field w 21 7) (omega arith),
        lt-leb 128 (field w 14 7) (omega arith),
        lt-leb 128 (field w 7 7) (omega arith),
        lt-leb 128 (field w 0 7) (omega arith),
      );
      reads_as_init = h.command 2;
      right_check = h.checked;
    }

pub no_effect : NoEffect
no_effect =
    record {
      judged_alike = judged_alike;
      states_alike = λ p s t a cs. frames_alike p s t a cs cs (same_row cs);
      frames_alike = frames_alike;
      frames_there = frames_there;
    }
