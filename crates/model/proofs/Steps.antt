-- A call leaves a good state good, and a fresh box is good. Assumes nothing.
use Prim.Native.Nat.{◌/◌, ◌<◌}
use mathlib.Core.Bool.{true}
use mathlib.Core.Path.{◌≡◌, refl}
use mathlib.Core.List.{[]}
use native.Mathlib.Omega.{arith}
use lib.ListN.{length}
use Rattle.frames.specs.Layout.{check_in}
use Rattle.model.specs.declared.Profile.{Profile}
use Rattle.model.specs.declared.Core.{Core}
use Rattle.model.specs.Channels.{in_set}
use Rattle.model.specs.State.{State, fresh}
use Rattle.model.specs.Arrival.{Arrival, Arrival.stray, Arrival.alone, Arrival.growing, Arrival.whole, command_of, decided, judged, taken, arrive, byte_step}
use Rattle.model.specs.Ticks.{tick_step}
use Rattle.model.specs.Machine.{Call, Call.byte, Call.tick, step}
use Rattle.model.specs.Good.{in_range, only_listed, unlisted_zero, zero_run, good_partial, good_state}
use Rattle.model.proofs.GoodStates.{GoodState}
use Rattle.model.proofs.Listed.{running_channels}
use Rattle.model.proofs.Cases.{tick_cases}
use Rattle.model.proofs.Sizes.{sizes_kept}
use Rattle.model.proofs.Partials.{Sound, arrive_sound}
use Rattle.model.proofs.Carried.{bytes_of, carry_core}
use Rattle.model.proofs.Timed.{timed_core, timed_keeps_sizes}

-- no partial frame is a good one
no_frame_good : (m : Core) → good_partial m 0 [] ≡ true
unfolding good_partial
no_frame_good m = refl

module _ (p : Profile) (fed-in : 0 < p.watchdog) (s : State) (g : GoodState p s) where
  -- a byte, by what arrives
  taken_good : (a : Arrival) → Sound s.core a → GoodState p (taken p s a).state
  unfolding taken decided judged
  taken_good stray h = g
  taken_good alone h = record { clock = g.clock; core = g.core; partial = no_frame_good s.core }
  taken_good (growing q) h = record { clock = g.clock; core = g.core; partial = h }
  taken_good (whole bytes) h =
      let b = bytes_of bytes (length bytes / 3) in
      let c = carry_core p fed-in s.clock s.core (check_in bytes) (command_of bytes) b g.core in
      record { clock = g.clock; core = c; partial = no_frame_good _ }

  -- a tick
  ticked_good : GoodState p (tick_step p s).state
  ticked_good =
      let c = g.core in
      tick_cases (λ r. GoodState p r.state) p s g
      (λ h.
      record {
        clock = omega arith;
        core = timed_core p s.clock s.core c;
        partial = sizes_kept s.core _ (timed_keeps_sizes p s.clock s.core c) s.partial.size s.partial.bytes g.partial;
      })

  -- any call
  pub step_good : (c : Call) → GoodState p (step p s c).state
  unfolding step byte_step
  step_good (byte n) =
      taken_good (arrive s.core s.partial n)
      (arrive_sound s.core s.partial n (running_channels g.core) g.partial)
  step_good tick = ticked_good

-- a fresh box
pub fresh_good : (p : Profile) → good_state p fresh ≡ true
unfolding good_state in_range unlisted_zero only_listed in_set zero_run good_partial
fresh_good p = refl
