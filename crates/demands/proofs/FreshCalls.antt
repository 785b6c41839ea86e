-- What a fresh box says to a few calls and files of them, under any profile. Assumes nothing.
use Prim.Native.Nat.{ℕ, ◌≤◌}
use mathlib.Core.Path.{◌≡◌, refl}
use mathlib.Core.List.{[], ◌∷◌}
use native.Mathlib.Omega.{arith}
use borrow.Author.Tests.{le-leb}
use Rattle.frames.specs.Layout.{command_in, check_in}
use Rattle.trace.specs.declared.Record.TheVariants.{Answer}
use Rattle.trace.specs.Records.{bytes_of}
use Rattle.trace.specs.Rows.{joined}
use Rattle.trace.specs.Tail.{tail_within}
use Rattle.model.specs.declared.Profile.{Profile}
use Rattle.model.specs.State.{fresh}
use Rattle.model.specs.Judgement.{breaks_timing, in_hold, over_limit, refusals, judge}
use Rattle.model.specs.Effects.{accept, carry}
use Rattle.model.specs.Arrival.{lengthened, opened, followed, arrive, decided, judged, taken, byte_step}
use Rattle.model.specs.Ticks.{tick_step}
use Rattle.model.specs.Machine.{Call.byte, Call.tick, step, run, after}
use Rattle.demands.specs.Demand2.{tail_of}

module _ (p : Profile) where
  -- a tick is taken
  pub ticks_0 : (step p fresh tick).answer ≡ 0
  unfolding step tick_step
  ticks_0 = refl

  -- a low byte is a stray
  pub strays_2 : (step p fresh (byte 0)).answer ≡ 2
  unfolding step byte_step arrive followed taken
  strays_2 = refl

  -- and so it is behind ticks; it goes on with a frame that is open
  pub then_strays_2 : (step p (after p fresh (tick ∷ tick ∷ [])) (byte 0)).answer ≡ 2
  unfolding step after byte_step arrive followed taken tick_step
  then_strays_2 = refl

  pub then_goes_on_1 : (step p (after p fresh (tick ∷ byte 0x80 ∷ [])) (byte 0)).answer ≡ 1
  unfolding step after byte_step arrive opened followed lengthened taken
  then_goes_on_1 = refl

  -- a Stop files a record of seven bytes
  pub stop_files : (capacity : ℕ) → 16 ≤ capacity → tail_of p capacity (byte 0xC0 ∷ []) ≡ bytes_of (Answer 0 2 0)
  unfolding step run byte_step arrive opened lengthened taken command_in check_in judged judge refusals breaks_timing in_hold over_limit decided carry accept joined tail_within
  stop_files capacity h = rw (le-leb 7 capacity (omega arith))
