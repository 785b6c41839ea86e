-- One call at two boxes, the second's profile nowhere looser, that are level, or of which the second is tripped. Assumes nothing.
use Prim.Native.Nat.{ℕ, ◌+◌}
use mathlib.Core.Bool.{true≢false}
use mathlib.Core.Path.{◌≡◌, refl}
use mathlib.Core.List.{[], ◌∷◌}
use native.Mathlib.Omega.{arith}
use lib.Dec.{eqb}
use borrow.Author.Tests.{leb-false, lt-leb}
use Rattle.bits.specs.High.{high}
use Rattle.commands.specs.Commands.{Command, Command.init, Command.update, Command.stop, Command.single, ident_of}
use Rattle.frames.specs.Layout.{ident_in, size_for, check_in}
use Rattle.model.specs.declared.Profile.{Profile}
use Rattle.model.specs.declared.Run.{Run}
use Rattle.model.specs.declared.Core.{Core}
use Rattle.model.specs.Profiles.{NowhereLooser}
use Rattle.model.specs.State.{Partial, no_frame, State}
use Rattle.model.specs.Judgement.{breaks_timing, in_hold, over_limit, refusals, judge}
use Rattle.model.specs.Effects.{accept, carry}
use Rattle.model.specs.Arrival.{Arrival, Arrival.stray, Arrival.alone, Arrival.growing, Arrival.whole, Result}
use Rattle.model.specs.Arrival.{lengthened, opened_update, opened, followed, arrive, decided, command_of, judged, taken, byte_step}
use Rattle.model.specs.Ticks.{last_clock, aged, timed, watched, tick_step}
use Rattle.model.specs.Machine.{Call, Call.byte, Call.tick, step}
use Rattle.model.proofs.Tests.{either_way}
use Rattle.model.proofs.Accepted.{accepted}
use Rattle.model.proofs.Cases.{carry_cases, ticked, timed_cases}
use Rattle.outcome.specs.Claims.{pulses_in}
use Rattle.demands.proofs.Limits.{same_or_9, accepts_too}

-- a state, by its parts
abbrev pub at : ℕ → Partial → Core → State
at clock f m = record { clock = clock; partial = f; core = m }

-- a tripped core
abbrev pub down : ℕ → ℕ → Run → Core
down a b r = record { holda = a; holdb = b; state = 2; run = r }

-- the second box has the first's partial frame, or none
pub data Framed : Partial → Partial → Type 0 where
  even : {f : Partial} → Framed f f
  gone : {f : Partial} → Framed f no_frame

-- the second box is tripped; the clocks are equal
pub data Apart : State → State → Type 0 where
  apart : {clock : ℕ} {m : Core} {a b : ℕ} {r : Run} {f g : Partial} → Framed f g → Apart (at clock f m) (at clock g (down a b r))

-- the two are equal, or the second is tripped
pub data Related : State → State → Type 0 where
  joined : {s : State} → Related s s
  parted : {s t : State} → Apart s t → Related s t

-- a call gave the two the same, or it leaves the second tripped and released no pulse of it
pub data Met : Result → Result → Type 0 where
  same : {x : Result} → Met x x
  fell : {x y : Result} → Apart x.state y.state → pulses_in y.records ≡ [] → Met x y

module _ (p q : Profile) (l : NowhereLooser q p) where
  -- ---- level

  -- a whole frame gives the two the same, or trips the second
  judged_level : (clock : ℕ) (m : Core) (k : ℕ) (c : Command) → Met (judged p clock m k c) (judged q clock m k c)
  unfolding judged decided carry pulses_in
  judged_level clock m k c = same_or_9 p q l m k c (λ e. rw e same) (λ e. rw e (fell (apart even) refl))

  -- so does what a byte comes to
  taken_level : (s : State) (x : Arrival) → Met (taken p s x) (taken q s x)
  unfolding taken
  taken_level s stray = same
  taken_level s alone = same
  taken_level s (growing f) = same
  taken_level s (whole bytes) = judged_level s.clock s.core (check_in bytes) (command_of bytes)

  -- time gives the two the same, or trips the second by its watchdog
  timed_level : (s : State) (clock : ℕ) (m : Core) → Met (ticked s (timed p clock m)) (ticked s (timed q clock m))
  unfolding timed watched pulses_in
  timed_level s clock m =
      timed_cases (λ d. Met (ticked s (timed p clock m)) (ticked s d)) q clock m
      (λ e. rw e same)
      (λ e w. fell (apart even) refl)
      (λ e w. rw (e, lt-leb p.watchdog m.run.watch (omega (arith, leb-false q.watchdog m.run.watch w))) same)

  -- so does a tick
  tick_level : (s : State) → Met (tick_step p s) (tick_step q s)
  unfolding tick_step
  tick_level s =
      either_way (eqb s.clock last_clock) (λ e. rw e same) (λ e. rw e (timed_level s (s.clock + 1) (aged s.core)))

  -- so does a call
  call_level : (s : State) (c : Call) → Met (step p s c) (step q s c)
  unfolding step byte_step
  call_level s (byte n) = taken_level s (arrive s.core s.partial n)
  call_level s tick = tick_level s

  -- ---- the second box tripped

  module _ (clock : ℕ) (m : Core) (a b : ℕ) (r : Run) where
    -- whatever the first makes of a byte, a second that has no partial frame stays apart from it
    lost : (f : Partial) (x : Arrival) → Apart (taken p (at clock f m) x).state (at clock no_frame (down a b r))
    unfolding taken judged decided
    lost f stray = apart gone
    lost f alone = apart gone
    lost f (growing g) = apart gone
    lost f (whole bytes) = apart gone

    -- what the second carries out is an Init or a Stop: the first carries it out too, and it leaves nothing of what was
    carried_out : (k : ℕ) (c : Command) → judge q (down a b r) k c ≡ 0
        → (judge p m k c ≡ 0) × (accept clock m c ≡ accept clock (down a b r) c)
    unfolding judge refusals breaks_timing in_hold over_limit accept
    carried_out k (init v) z = (accepts_too p q l m k (init v) z, refl)
    carried_out k (update count entries) z = absurd (true≢false (accepted q (down a b r) k (update count entries) z).untripped)
    carried_out k stop z = (accepts_too p q l m k stop z, refl)
    carried_out k (single v) z = absurd (true≢false (accepted q (down a b r) k (single v) z).untripped)

    -- a whole frame leaves the second tripped, or gives the two the same
    judged_apart : (k : ℕ) (c : Command) → Met (judged p clock m k c) (judged q clock (down a b r) k c)
    unfolding judged decided carry pulses_in
    judged_apart k c =
        let n = judge q (down a b r) k c in
        carry_cases (λ d. Met (judged p clock m k c) (decided clock (ident_of c) n d)) clock (down a b r) c n
        (λ z. let (y, e) = carried_out k c z in rw (z, y, e) same)
        (fell (apart even) refl) (fell (apart even) refl) (fell (apart even) refl)

    -- so does a byte of which the two make the same
    taken_alike : {f g : Partial} → Framed f g → (x : Arrival)
        → Met (taken p (at clock f m) x) (taken q (at clock g (down a b r)) x)
    unfolding taken decided pulses_in
    taken_alike h stray = fell (apart h) refl
    taken_alike h alone = fell (apart even) refl
    taken_alike h (growing f) = fell (apart even) refl
    taken_alike h (whole bytes) = judged_apart (check_in bytes) (command_of bytes)

    -- so does a low byte
    followed_apart : {f g : Partial} → Framed f g → (n : ℕ)
        → Met (taken p (at clock f m) (followed f n)) (taken q (at clock g (down a b r)) (followed g n))
    unfolding followed taken pulses_in
    followed_apart {f} even n = taken_alike even (followed f n)
    followed_apart {f} gone n = fell (lost f (followed f n)) refl

    -- so does a high byte; an Update's first one the second answers alone
    opened_apart : {f g : Partial} → Framed f g → (n : ℕ)
        → Met (taken p (at clock f m) (opened m n)) (taken q (at clock g (down a b r)) (opened (down a b r) n))
    unfolding opened taken decided pulses_in
    opened_apart {f} h n =
        either_way (eqb (ident_in (n ∷ [])) 1)
        (λ e. rw e (fell (lost f (opened_update m n)) refl))
        (λ e. rw e (rw e at (taken_alike h (lengthened (n ∷ []) (size_for (ident_in (n ∷ [])) 1)))))

    -- so does a call
    call_apart : {f g : Partial} → Framed f g → (c : Call) → Met (step p (at clock f m) c) (step q (at clock g (down a b r)) c)
    unfolding step byte_step arrive tick_step timed pulses_in
    call_apart h (byte n) = either_way (high n) (λ e. rw e (opened_apart h n)) (λ e. rw e (followed_apart h n))
    call_apart h tick =
        either_way (eqb clock last_clock) (λ e. rw e (fell (apart h) refl)) (λ e. rw e (fell (apart h) refl))

  -- a call gives two that are related the same, or leaves the second tripped
  pub met : {s t : State} → Related s t → (c : Call) → Met (step p s c) (step q t c)
  met {s} joined c = call_level s c
  met (parted (apart {clock} {m} {a} {b} {r} h)) c = call_apart clock m a b r h c
